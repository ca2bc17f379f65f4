-- Debugging information entries (DWARF 5, sections 2.1, 2.3 and 7.5.2).
use Rattle.std.specs.Prelude.{ℕ, zero, suc, List, [], ◌∷◌, ◌++◌, ◌+◌, ◌-◌, ◌==◌, Bool, nat_le, length, take, drop}
use Rattle.std.specs.Prelude.{if◌then◌else◌, Option, Some, None}
use Rattle.std.specs.Option.{option_map, option_map_or, option_and_then, option_to_list}
use Rattle.dwarf_encoding.specs.Leb128.{unsigned_leb128_at}
use Rattle.dwarf_encoding.specs.Forms.{value_at}
use Rattle.dwarf_entries.specs.Attributes.{AttributesRecord, no_attributes, with_attribute}
use Rattle.dwarf_entries.specs.Specifications.{ShapeRecord}
use Rattle.dwarf_entries.specs.Abbreviations.{declaration_of}
use Rattle.dwarf_entries.specs.declared.unit_header.UnitHeader.{UnitHeader}

-- an entry
pub record EntryRecord : Type 0 where
  pub tag : ℕ
  pub has_children : Bool
  pub attributes : AttributesRecord

-- the values of the pairs of attributes and forms that are left, added to the values before them
unfoldable pub attributes_from : ℕ → AttributesRecord → List (ℕ × ℕ) → List ℕ → Option (AttributesRecord × List ℕ)
attributes_from version a [] bytes = Some (a, bytes)
attributes_from version a (pair ∷ pairs) bytes =
    option_and_then
    (λ x. attributes_from version (with_attribute a pair.0 x.0) pairs x.1)
    (value_at version pair.1 0 bytes)

-- the attributes of an entry with a declaration's shape, whose values begin the bytes; no values if they cannot be read
abbrev pub attributes_of : ℕ → ShapeRecord → List ℕ → AttributesRecord
attributes_of version shape bytes =
    option_map_or (λ x. x.0) (attributes_from version shape.constants shape.pairs bytes) no_attributes

-- the entry that begins the bytes, with the abbreviations of this section: its code, and the values of its declaration;
-- the code 0 is a null entry, which ends the children of an entry
unfoldable pub entry_at : List ℕ → UnitHeader → List ℕ → Option (Option EntryRecord × List ℕ)
entry_at abbreviations header bytes =
    option_and_then
    (λ x. if x.0 == 0 then Some (None, x.1)
    else
    option_and_then
    (λ d. option_map
    (λ y. (Some (record { tag = d.tag; has_children = d.has_children; attributes = y.0 }), y.1))
    (attributes_from header.version d.shape.constants d.shape.pairs x.1))
    (declaration_of abbreviations header.debug_abbrev_offset x.0))
    (unsigned_leb128_at bytes)

-- an entry in its unit: its offset there, and the number of entries around it
pub record PlacedRecord : Type 0 where
  pub offset : ℕ
  pub depth : ℕ
  pub entry : EntryRecord

-- the depth after an entry or a null entry at a depth; None once the first entry is closed
abbrev pub depth_after : ℕ → Option EntryRecord → Option ℕ
depth_after depth None = if nat_le depth 1 then None else Some (depth - 1)
depth_after depth (Some entry) =
    if entry.has_children then Some (depth + 1)
    else if depth == 0 then None
    else Some depth

-- the entries of the last bytes of a unit of `size` bytes, the first at this depth; at most `count` of them, null
-- entries included
unfoldable pub entries_within : ℕ → List ℕ → UnitHeader → ℕ → ℕ → List ℕ → List PlacedRecord
entries_within zero abbreviations header size depth bytes = []
entries_within (suc count) abbreviations header size depth bytes =
    option_map_or
    (λ x. option_to_list (option_map (λ e. record { offset = size - length bytes; depth = depth; entry = e }) x.0)
    ++ option_map_or (λ d. entries_within count abbreviations header size d x.1) (depth_after depth x.0) [])
    (entry_at abbreviations header bytes) []

-- the entries of the last bytes of a unit of `size` bytes, up to the first that cannot be read
unfoldable pub entries_from : List ℕ → UnitHeader → ℕ → ℕ → List ℕ → List PlacedRecord
entries_from abbreviations header size depth bytes =
    entries_within (length bytes) abbreviations header size depth bytes

-- the entries of a unit
abbrev pub entries_of : List ℕ → UnitHeader → List ℕ → List PlacedRecord
entries_of abbreviations header unit =
    entries_from abbreviations header (length unit) 0 (drop header.entries_offset unit)

-- the number of bytes left of `room` after the entry that begins these bytes; `rest` are the bytes after the entry
abbrev pub left_after : ℕ → List ℕ → List ℕ → ℕ
left_after room bytes rest = room - (length bytes - length rest)

-- the entry at an offset of its unit, if it can be read within `room` bytes, and how many of those bytes are left
abbrev pub entry_within : ℕ → List ℕ → UnitHeader → List ℕ → ℕ → Option (EntryRecord × ℕ)
entry_within room abbreviations header unit offset =
    if nat_le header.entries_offset offset
    then
    option_and_then
    (λ x. option_map (λ e. (e, left_after room (take room (drop offset unit)) x.1)) x.0)
    (entry_at abbreviations header (take room (drop offset unit)))
    else None
