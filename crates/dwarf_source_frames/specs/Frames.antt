-- The frames of an address from its entries and its row (DWARF 5, sections 2.14, 3.3.8.2 and 6.2.2).
use Rattle.std.specs.Prelude.{ℕ, List, [], ◌∷◌, ◌≡◌, ◌^◌, nat_lt, if◌then◌else◌, Option, Some, None}
use Rattle.std.specs.Option.{option_and_then}
use Rattle.dwarf_encoding.specs.Values.{ValueRecord, Constant}
use Rattle.dwarf_entries.specs.Entries.{EntryRecord}
use Rattle.dwarf_lines.specs.Paths.{PathRecord, parts_of}
use Rattle.dwarf_lines.specs.declared.registers.Row.{Row}
use Rattle.dwarf_source_frames.specs.DebugSections.{DebugSectionsRecord}
use Rattle.dwarf_source_frames.specs.DebugUnits.{UnitRecord, UnitEntryRecord}
use Rattle.dwarf_source_frames.specs.Names.{IsName}
use Rattle.dwarf_source_frames.specs.UnitLines.{LinesRecord}
use Rattle.dwarf_source_frames.specs.declared.frame.SourceLocation.{SourceLocation}

-- a frame: the name of its function, and its path, line and column
pub record FrameRecord : Type 0 where
  pub name : Option (List ℕ)
  pub path : Option PathRecord
  pub line : ℕ
  pub column : ℕ

-- the constant that a value is; 0 if it is none
abbrev pub constant_or_zero : Option ValueRecord → ℕ
constant_or_zero (Some (Constant n)) = n
constant_or_zero _ = 0

-- the constant that a value is
abbrev pub constant_of : Option ValueRecord → Option ℕ
constant_of (Some (Constant n)) = Some n
constant_of _ = None

-- a line or a column; 0, which means unknown, for 2^32 and more
abbrev pub known_number : ℕ → ℕ
known_number n = if nat_lt n (2 ^ 32) then n else 0

-- the location of a row; unknown without a row
abbrev pub location_of_row : Option Row → SourceLocation
location_of_row None = record { file = None; line = 0; column = 0 }
location_of_row (Some row) =
    record {
      file = Some row.registers.file;
      line = known_number row.registers.line;
      column = known_number row.registers.column;
    }

-- the location of the call that an entry describes: DW_AT_call_file, DW_AT_call_line and DW_AT_call_column
abbrev pub location_of_call : EntryRecord → SourceLocation
location_of_call entry =
    record {
      file = constant_of entry.attributes.call_file;
      line = known_number (constant_or_zero entry.attributes.call_line);
      column = known_number (constant_or_zero entry.attributes.call_column);
    }

-- the path of a file among the names of the program
abbrev pub path_in : LinesRecord → Option ℕ → Option PathRecord
path_in lines file =
    option_and_then (λ n. option_and_then (λ names. parts_of lines.texts lines.comp_dir names n) lines.names) file

-- the frame of an entry at a location
pub record IsFrame (sections : DebugSectionsRecord) (lines : LinesRecord) (e : UnitEntryRecord)
    (location : SourceLocation)
    (frame : FrameRecord) : Type 0 where
  pub name : IsName sections e frame.name
  pub path : frame.path ≡ path_in lines location.file
  pub line : frame.line ≡ location.line
  pub column : frame.column ≡ location.column

-- the frames of entries, the innermost first, which has the given location; each other frame has the location of the
-- call that the entry before it describes
abbrev pub AreFramesFrom :
    DebugSectionsRecord → LinesRecord → UnitRecord → SourceLocation → List EntryRecord → List FrameRecord → Type 0
AreFramesFrom sections lines unit location [] frames = frames ≡ []
AreFramesFrom sections lines unit location (e ∷ es) [] = ⊥
AreFramesFrom sections lines unit location (e ∷ es) (f ∷ fs) =
    IsFrame sections lines (record { unit = unit; entry = e }) location f
    × AreFramesFrom sections lines unit (location_of_call e) es fs

-- the frame of a row alone, which has no function
abbrev pub frame_of_row : LinesRecord → Row → FrameRecord
frame_of_row lines row =
    record {
      name = None;
      path = path_in lines (Some row.registers.file);
      line = known_number row.registers.line;
      column = known_number row.registers.column;
    }

-- the frames of the entries of an address and of its row: if there is no entry, a row has one frame without a name
abbrev pub AreFramesOfChain :
    DebugSectionsRecord → LinesRecord → UnitRecord → List EntryRecord → Option Row → List FrameRecord → Type 0
AreFramesOfChain sections lines unit [] None frames = frames ≡ []
AreFramesOfChain sections lines unit [] (Some row) frames = frames ≡ frame_of_row lines row ∷ []
AreFramesOfChain sections lines unit (e ∷ es) row frames =
    AreFramesFrom sections lines unit (location_of_row row) (e ∷ es) frames
