-- The frames of an address of an image (DWARF 5, sections 2.14, 3.3.8, 6.1.2 and 6.2.2).
use Rattle.std.specs.Prelude.{ℕ, List, [], ◌≡◌, reverse, Option, Some, None}
use Rattle.std.specs.Option.{option_and_then, option_map_or}
use Rattle.dwarf_entries.specs.Entries.{EntryRecord}
use Rattle.dwarf_lines.specs.Covering.{IsCovering}
use Rattle.dwarf_lines.specs.Machine.{initial, rows_from}
use Rattle.dwarf_lines.specs.declared.registers.Row.{Row}
use Rattle.dwarf_source_frames.specs.DebugSections.{DebugSectionsRecord, debug_sections}
use Rattle.dwarf_source_frames.specs.DebugUnits.{UnitRecord}
use Rattle.dwarf_source_frames.specs.Frames.{FrameRecord, AreFramesOfChain}
use Rattle.dwarf_source_frames.specs.Scopes.{IsChain, calls_of, scopes_of}
use Rattle.dwarf_source_frames.specs.UnitAddresses.{IsUnitOf, read_unit}
use Rattle.dwarf_source_frames.specs.UnitLines.{LinesRecord, lines_of}

-- the rows of the program of a unit
unfoldable pub rows_of : LinesRecord → List Row
rows_of lines = option_map_or (λ p. rows_from p.header initial p.bytes) lines.program []

-- the frames of an address in a unit, the innermost first: those of the calls among the function entries that contain
-- it, and of the row that covers it
pub record AreFramesInUnit (sections : DebugSectionsRecord) (unit : UnitRecord) (address : ℕ)
    (frames : List FrameRecord) : Type 0 where
  pub chain : List EntryRecord
  pub row : Option Row
  pub contain : IsChain address (scopes_of sections unit) chain
  pub covers : IsCovering (rows_of (lines_of sections unit)) address row
  pub are_frames : AreFramesOfChain sections (lines_of sections unit) unit (calls_of (reverse chain)) row frames

-- an address without a unit has no frames
abbrev pub AreFramesIn : DebugSectionsRecord → Option UnitRecord → ℕ → List FrameRecord → Type 0
AreFramesIn sections None address frames = frames ≡ []
AreFramesIn sections (Some unit) address frames = AreFramesInUnit sections unit address frames

-- the frames of an address according to these sections: those in its unit
pub record AreFramesBy (sections : DebugSectionsRecord) (address : ℕ) (frames : List FrameRecord) : Type 0 where
  pub place : Option ℕ
  pub is_unit : IsUnitOf sections address place
  pub are_frames : AreFramesIn sections (option_and_then (read_unit sections) place) address frames

-- the frames of an address of an image
abbrev pub AreFramesOf : List ℕ → ℕ → List FrameRecord → Type 0
AreFramesOf image address frames = AreFramesBy (debug_sections image) address frames
