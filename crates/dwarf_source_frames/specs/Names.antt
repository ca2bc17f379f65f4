-- The name of the function of an entry (DWARF 5, sections 2.13.2, 2.15, 2.22 and 3.3.8.2).
use Rattle.std.specs.Prelude.{ℕ, zero, suc, List, ◌≡◌, ◌==◌, length, if◌then◌else◌, Option, Some, None, MatchOption}
use Rattle.std.specs.Option.{option_and_then, option_or}
use Rattle.dwarf_encoding.specs.Values.{ValueRecord}
use Rattle.dwarf_encoding.specs.TextSections.{text_of}
use Rattle.dwarf_source_frames.specs.DebugSections.{DebugSectionsRecord}
use Rattle.dwarf_source_frames.specs.DebugUnits.{UnitEntryRecord, texts_of, place_of, IsEntryAt}

-- an empty text counts as none
abbrev pub some_text : List ℕ → Option (List ℕ)
some_text text = if length text == 0 then None else Some text

-- the text of an attribute of an entry
unfoldable pub text_in : DebugSectionsRecord → UnitEntryRecord → Option ValueRecord → Option (List ℕ)
text_in sections e value =
    option_and_then (λ text. some_text text) (option_and_then (text_of (texts_of sections e.unit)) value)

-- the text of DW_AT_linkage_name, else of DW_AT_MIPS_linkage_name
unfoldable pub linkage_name : DebugSectionsRecord → UnitEntryRecord → Option (List ℕ)
linkage_name sections e =
    option_or
    (text_in sections e e.entry.attributes.linkage_name)
    (text_in sections e e.entry.attributes.mips_linkage_name)

-- the offset that DW_AT_abstract_origin names, else that of DW_AT_specification
unfoldable pub origin_place : UnitEntryRecord → Option ℕ
origin_place e =
    option_and_then (place_of e.unit) (option_or e.entry.attributes.abstract_origin e.entry.attributes.specification)

-- the entry that an entry refers to, if it can be read within `room` bytes, and how many of those bytes are left
abbrev pub IsOrigin : ℕ → DebugSectionsRecord → UnitEntryRecord → Option (UnitEntryRecord × ℕ) → Type 0
IsOrigin room sections e found =
    MatchOption (origin_place e) (found ≡ None) (λ place. IsEntryAt room sections place found)

-- the name of an entry, from at most `count` entries: itself and those that it refers to, which have at most `room`
-- bytes: the first linkage name, else the first DW_AT_name; `before` is a name that is known already
abbrev pub IsNameWithin :
    ℕ → ℕ → DebugSectionsRecord → UnitEntryRecord → Option (List ℕ) → Option (List ℕ) → Type 0
IsNameWithin zero room sections e before name = name ≡ before
IsNameWithin (suc count) room sections e before name =
    MatchOption (linkage_name sections e)
    ((origin : Option (UnitEntryRecord × ℕ)) × IsOrigin room sections e origin
    × MatchOption origin
    (name ≡ option_or before (text_in sections e e.entry.attributes.name))
    (λ o. IsNameWithin count o.1 sections o.0 (option_or before (text_in sections e e.entry.attributes.name)) name))
    (λ linkage. name ≡ Some linkage)

-- the name of an entry, from itself and those that it refers to, 16 at most: those after the first, and the first
-- entries of their units, have at most 16,384 bytes together
abbrev pub IsName : DebugSectionsRecord → UnitEntryRecord → Option (List ℕ) → Type 0
IsName sections e name = IsNameWithin 16 16384 sections e None name
