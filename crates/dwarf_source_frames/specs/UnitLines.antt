-- The parts of a unit's line number program that its frames need (DWARF 5, sections 3.1.1 and 6.2).
use Rattle.std.specs.Prelude.{ℕ, List, [], nat_lt, if◌then◌else◌, Option, Some, None}
use Rattle.std.specs.Option.{option_and_then, unwrap_or}
use Rattle.dwarf_encoding.specs.Units.{unit_of}
use Rattle.dwarf_encoding.specs.Values.{ValueRecord, SectionOffset, Constant}
use Rattle.dwarf_encoding.specs.TextSections.{TextSectionsRecord, text_of}
use Rattle.dwarf_lines.specs.Header.{ProgramRecord, program_of}
use Rattle.dwarf_lines.specs.Names.{NamesRecord, names_of}
use Rattle.dwarf_source_frames.specs.DebugSections.{DebugSectionsRecord}
use Rattle.dwarf_source_frames.specs.DebugUnits.{UnitRecord, texts_of}

-- the texts of a unit, DW_AT_comp_dir, and its program with the names of files
pub record LinesRecord : Type 0 where
  pub texts : TextSectionsRecord
  pub comp_dir : List ℕ
  pub names : Option NamesRecord
  pub program : Option ProgramRecord

-- the offset in __debug_line that DW_AT_stmt_list names; before version 4 a constant is an offset too
abbrev pub program_offset : UnitRecord → Option ValueRecord → Option ℕ
program_offset unit (Some (SectionOffset offset)) = Some offset
program_offset unit (Some (Constant offset)) = if nat_lt unit.header.version 4 then Some offset else None
program_offset unit _ = None

-- the unit of __debug_line at that offset
unfoldable pub line_unit : DebugSectionsRecord → UnitRecord → Option (List ℕ)
line_unit sections unit =
    option_and_then (unit_of sections.debug_line) (program_offset unit unit.first.attributes.stmt_list)

-- the text of DW_AT_comp_dir; empty if there is none
unfoldable pub comp_dir_of : DebugSectionsRecord → UnitRecord → List ℕ
comp_dir_of sections unit =
    unwrap_or (option_and_then (text_of (texts_of sections unit)) unit.first.attributes.comp_dir) []

abbrev pub lines_of : DebugSectionsRecord → UnitRecord → LinesRecord
lines_of sections unit =
    record {
      texts = texts_of sections unit;
      comp_dir = comp_dir_of sections unit;
      names = option_and_then names_of (line_unit sections unit);
      program = option_and_then program_of (line_unit sections unit);
    }
