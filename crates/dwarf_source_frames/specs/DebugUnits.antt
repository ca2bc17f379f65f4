-- The units that are read, and the entries at their offsets (DWARF 5, sections 7.5.1 and 7.5.5).
use Rattle.std.specs.Prelude.{ℕ, List, ◌≡◌, ◌+◌, ◌-◌, ◌%◌, ◌^◌, Option, Some, None}
use Rattle.std.specs.Option.{option_map, option_and_then}
use Rattle.dwarf_encoding.specs.Units.{IsUnitWith}
use Rattle.dwarf_encoding.specs.Values.{ValueRecord, SectionOffset, UnitReference, SectionReference}
use Rattle.dwarf_encoding.specs.TextSections.{TextSectionsRecord}
use Rattle.dwarf_entries.specs.UnitHeaders.{header_of}
use Rattle.dwarf_entries.specs.Entries.{EntryRecord, entry_within}
use Rattle.dwarf_entries.specs.declared.unit_header.UnitHeader.{UnitHeader}
use Rattle.dwarf_source_frames.specs.DebugSections.{DebugSectionsRecord}

-- a unit: its offset in __debug_info, its bytes, its header and its first entry
pub record UnitRecord : Type 0 where
  pub offset : ℕ
  pub bytes : List ℕ
  pub header : UnitHeader
  pub first : EntryRecord

-- the unit with these bytes at an offset, if its header and its first entry can be read within `room` bytes, and how
-- many of those bytes are left
unfoldable pub unit_within : ℕ → List ℕ → ℕ → List ℕ → Option (UnitRecord × ℕ)
unit_within room abbreviations offset bytes =
    option_and_then
    (λ header. option_map
    (λ x. (record { offset = offset; bytes = bytes; header = header; first = x.0 }, x.1))
    (entry_within room abbreviations header bytes header.entries_offset))
    (header_of bytes)

-- the unit with these bytes at an offset, if its header and its first entry can be read; the first entry has at most
-- 16,384 bytes
unfoldable pub unit_of_bytes : List ℕ → ℕ → List ℕ → Option UnitRecord
unit_of_bytes abbreviations offset bytes = option_map (λ x. x.0) (unit_within 16384 abbreviations offset bytes)

-- the offset in another section that an attribute names, or another number
abbrev pub offset_or : Option ValueRecord → ℕ → ℕ
offset_or (Some (SectionOffset offset)) default = offset
offset_or _ default = default

-- the sections of texts as a unit reads them; its part of __debug_str_offs begins at DW_AT_str_offsets_base, or after a
-- header of eight bytes
abbrev pub texts_of : DebugSectionsRecord → UnitRecord → TextSectionsRecord
texts_of sections unit =
    record {
      debug_str = sections.debug_str;
      debug_line_str = sections.debug_line_str;
      debug_str_offs = sections.debug_str_offs;
      str_offsets_base = offset_or unit.first.attributes.str_offsets_base 8;
    }

-- an entry and its unit
pub record UnitEntryRecord : Type 0 where
  pub unit : UnitRecord
  pub entry : EntryRecord

-- the offset in __debug_info that a reference names
abbrev pub place_of : UnitRecord → ValueRecord → Option ℕ
place_of unit (UnitReference offset) = Some ((unit.offset + offset) % 2 ^ 64)
place_of unit (SectionReference offset) = Some offset
place_of unit _ = None

-- the entry at an offset of a unit, if it can be read within `room` bytes, and how many of those bytes are left
abbrev pub entry_in : ℕ → List ℕ → UnitRecord → ℕ → Option (UnitEntryRecord × ℕ)
entry_in room abbreviations unit offset =
    option_map
    (λ x. (record { unit = unit; entry = x.0 }, x.1))
    (entry_within room abbreviations unit.header unit.bytes offset)

-- the entry at an offset of __debug_info, in the unit that contains the offset, if the first entry of that unit and
-- this one can be read within `room` bytes, and how many of those bytes are left
unfoldable pub entry_with : ℕ → List ℕ → ℕ → Option (ℕ × List ℕ) → Option (UnitEntryRecord × ℕ)
entry_with room abbreviations place found =
    option_and_then
    (λ u. option_and_then
    (λ x. entry_in x.1 abbreviations x.0 (place - u.0))
    (unit_within room abbreviations u.0 u.1))
    found

abbrev pub IsEntryAt : ℕ → DebugSectionsRecord → ℕ → Option (UnitEntryRecord × ℕ) → Type 0
IsEntryAt room sections place found =
    (unit : Option (ℕ × List ℕ)) × IsUnitWith sections.debug_info place unit
    × (found ≡ entry_with room sections.debug_abbrev place unit)
