-- Units in another order than that of their offsets, each with its boundaries: definitions of inner functions. No
-- contract of a public function uses them.
use Rattle.std.specs.Prelude.{ℕ, List, map, ◌↔◌, Option, All, Contains, []}
use Rattle.std.specs.BTreeMap as tree_map
use Rattle.dwarf_lines.specs.Header.{program_of}
use Rattle.dwarf_lines.specs.Machine.{initial, rows_from}
use Rattle.dwarf_lines.specs.declared.registers.Row.{Row}
use Rattle.dwarf_encoding.specs.Units.{unit_of}
use Rattle.std.specs.Option.{option_and_then, option_map_or}
use Rattle.dwarf_functions.specs.RowSteps.{AreRowSteps}
use Rattle.dwarf_source_frames.specs.DebugSections.{DebugSectionsRecord}
use Rattle.dwarf_asked_addresses.specs.Rising.{AreRising}
use Rattle.dwarf_source_frames.specs.ByUnit.{addresses_under}
use Rattle.dwarf_frame_changes.specs.Given.{AreDistinct}
use Rattle.dwarf_source_frames.specs.declared.unit_lists.AddressList.{AddressList}
use Rattle.dwarf_frame_changes.specs.declared.unit_by_unit.LastRows.{LastRows}
use Rattle.dwarf_frame_changes.specs.declared.unit_by_unit.UnitBoundaries.{UnitBoundaries}

-- the offsets of these units
abbrev pub places : List UnitBoundaries → List ℕ
places all = map (λ unit. unit.place) all

-- each unit with addresses, once, with these addresses, ascending
pub record AreBoundariesBy (by_unit : tree_map.BTreeMap ℕ AddressList) (all : List UnitBoundaries) : Type 0 where
  pub each : All (λ unit. AreRising unit.boundaries.items
      × ((a : ℕ) → Contains unit.boundaries.items a ↔ Contains (addresses_under by_unit unit.place) a)) all
  pub every : (place a : ℕ) → Contains (addresses_under by_unit place) a → Contains (places all) place
  pub once : AreDistinct (places all)

-- the rows of the program at an offset of __debug_line, if there is one
unfoldable pub rows_at : DebugSectionsRecord → Option ℕ → List Row
rows_at sections offset =
    option_map_or (λ p. rows_from p.header initial p.bytes)
    (option_and_then program_of (option_and_then (unit_of sections.debug_line) offset)) []

-- the rows are those of the program that was run last
abbrev pub AreRowsOfLast : DebugSectionsRecord → LastRows → Type 0
AreRowsOfLast sections last = AreRowSteps (rows_at sections last.program) last.rows.starts.items last.rows.rows.items
