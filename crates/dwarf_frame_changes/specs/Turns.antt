-- The addresses at which the frames of an image may change.
use Rattle.std.specs.Prelude.{ℕ, List, [], ◌∷◌, ◌++◌, ◌+◌, ◌^◌, ◌<◌, nat_lt, map, flat_map, ◌⊎◌, if◌then◌else◌}
use Rattle.std.specs.Prelude.{Contains}
use Rattle.dwarf_encoding.specs.Sequences.{placed}
use Rattle.dwarf_encoding.specs.Units.{unit_at}
use Rattle.dwarf_ranges.specs.Aranges.{aranges_of}
use Rattle.dwarf_ranges.specs.declared.arange.Arange.{Arange}
use Rattle.dwarf_ranges.specs.declared.range.CodeRange.{CodeRange}
use Rattle.dwarf_source_frames.specs.AddressFrames.{rows_of}
use Rattle.dwarf_source_frames.specs.DebugSections.{DebugSectionsRecord, debug_sections}
use Rattle.dwarf_source_frames.specs.DebugUnits.{UnitRecord}
use Rattle.dwarf_source_frames.specs.FoundUnits.{IsInUnit}
use Rattle.dwarf_source_frames.specs.Scopes.{scopes_of}
use Rattle.dwarf_source_frames.specs.UnitAddresses.{own_ranges}
use Rattle.dwarf_source_frames.specs.UnitLines.{lines_of}

-- the first address of a tuple, and its end, if that is an address
abbrev pub ends_of_tuple : Arange → List ℕ
ends_of_tuple tuple =
    tuple.address
    ∷ (if nat_lt (tuple.address + tuple.length) (2 ^ 64) then (tuple.address + tuple.length) ∷ [] else [])

-- the first address and the end of a range
abbrev pub ends_of_range : CodeRange → List ℕ
ends_of_range range = range.low ∷ (range.high ∷ [])

-- the first addresses and the ends of ranges
abbrev pub ends_of : List CodeRange → List ℕ
ends_of ranges = flat_map ends_of_range ranges

-- the first addresses and the ends of the tuples of __debug_aranges, and of the ranges of the units that no set of it
-- names: the addresses at which the unit may change
unfoldable pub boundaries : DebugSectionsRecord → List ℕ
boundaries sections =
    flat_map ends_of_tuple (aranges_of sections.debug_aranges)
    ++ flat_map (λ u. ends_of (own_ranges sections u.0 u.1)) (placed unit_at sections.debug_info)

-- the first addresses and the ends of the ranges of a unit's functions, and the addresses of the rows of its program:
-- the addresses at which the frames in the unit may change
unfoldable pub unit_turns : DebugSectionsRecord → UnitRecord → List ℕ
unit_turns sections unit =
    flat_map (λ scope. ends_of scope.ranges) (scopes_of sections unit)
    ++ map (λ row. row.registers.address) (rows_of (lines_of sections unit))

-- a turn of the unit of an address
abbrev pub IsUnitTurn : DebugSectionsRecord → ℕ → Type 0
IsUnitTurn sections address =
    (unit : UnitRecord) × IsInUnit sections unit address × Contains (unit_turns sections unit) address

-- an address at which the frames may change: the unit may, or the frames in the unit
abbrev pub IsTurnBy : DebugSectionsRecord → ℕ → Type 0
IsTurnBy sections address = (address < 2 ^ 64) × (Contains (boundaries sections) address ⊎ IsUnitTurn sections address)

-- an address at which the frames of an image may change
abbrev pub IsTurn : List ℕ → ℕ → Type 0
IsTurn image address = IsTurnBy (debug_sections image) address
