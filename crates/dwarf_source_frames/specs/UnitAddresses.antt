-- The unit of an address (DWARF 5, section 6.1.2).
use Rattle.std.specs.Prelude.{ℕ, List, [], ◌≡◌, ◌<◌, length, slice_index, slice_index_or, if◌then◌else◌, Option, None}
use Rattle.std.specs.List.{find}
use Rattle.std.specs.Option.{option_and_then, option_map, option_map_or, option_or}
use Rattle.dwarf_encoding.specs.Sequences.{placed}
use Rattle.dwarf_encoding.specs.Units.{unit_at, unit_of}
use Rattle.dwarf_ranges.specs.Aranges.{IsFirstTuple, aranges_of, is_named}
use Rattle.dwarf_ranges.specs.Lists.{in_ranges}
use Rattle.dwarf_ranges.specs.declared.arange.Arange.{Arange}
use Rattle.dwarf_ranges.specs.declared.range.CodeRange.{CodeRange}
use Rattle.dwarf_source_frames.specs.DebugSections.{DebugSectionsRecord}
use Rattle.dwarf_source_frames.specs.DebugUnits.{UnitRecord, unit_of_bytes}
use Rattle.dwarf_source_frames.specs.UnitCode.{first_ranges}

-- the unit at an offset, if one begins there and can be read
unfoldable pub read_unit : DebugSectionsRecord → ℕ → Option UnitRecord
read_unit sections offset =
    option_and_then (unit_of_bytes sections.debug_abbrev offset) (unit_of sections.debug_info offset)

-- the offset of the unit that a tuple names, if it can be read
abbrev pub place_by_tuple : DebugSectionsRecord → Option Arange → Option ℕ
place_by_tuple sections tuple =
    option_and_then (λ t. option_map (λ unit. unit.offset) (read_unit sections t.debug_info_offset)) tuple

-- the ranges of the first entry of a unit at an offset, if it can be read; none if a set of __debug_aranges names the
-- unit
unfoldable pub own_ranges : DebugSectionsRecord → ℕ → List ℕ → List CodeRange
own_ranges sections offset bytes =
    if is_named sections.debug_aranges offset then []
    else option_map_or (first_ranges sections) (unit_of_bytes sections.debug_abbrev offset bytes) []

-- the offset of the first unit whose own ranges contain an address
abbrev pub place_by_ranges : DebugSectionsRecord → ℕ → Option ℕ
place_by_ranges sections address =
    option_map
    (λ u. u.0)
    (find (λ u. in_ranges address (own_ranges sections u.0 u.1)) (placed unit_at sections.debug_info))

-- the offset of the unit of an address: the unit that the first tuple with the address names, else the first unit whose
-- own ranges contain it
abbrev pub IsUnitOf : DebugSectionsRecord → ℕ → Option ℕ → Type 0
IsUnitOf sections address place =
    (tuple : Option Arange) × IsFirstTuple (aranges_of sections.debug_aranges) address tuple
    × (place ≡ option_or (place_by_tuple sections tuple) (place_by_ranges sections address))

-- each address has its unit, or none
pub record AreUnitsOf (sections : DebugSectionsRecord) (addresses : List ℕ) (places : List (Option ℕ)) : Type 0 where
  pub len : length places ≡ length addresses
  pub each : (i : ℕ) → i < length addresses →
      IsUnitOf sections (slice_index addresses i) (slice_index_or places i None)
