-- Frames and the lines that they need, as the definitions have them.
use Rattle.std.specs.Option.{option_map}
use Rattle.dwarf_encoding.specs.TextViews.{text_sections_view}
use Rattle.dwarf_lines.specs.NameViews.{names_view}
use Rattle.dwarf_lines.specs.PathViews.{path_view}
use Rattle.dwarf_lines.specs.Views.{program_view}
use Rattle.dwarf_source_frames.specs.UnitLines.{LinesRecord}
use Rattle.dwarf_source_frames.specs.Frames.{FrameRecord}
use Rattle.dwarf_source_frames.specs.declared.unit_lines.UnitLines.{UnitLines}
use Rattle.dwarf_source_frames.specs.declared.frame.SourceFrame.{SourceFrame}

-- a unit's texts, names and program, without their addresses in memory
abbrev pub lines_view : UnitLines → LinesRecord
lines_view l =
    record {
      texts = text_sections_view l.texts;
      comp_dir = l.comp_dir.now;
      names = option_map names_view l.names;
      program = option_map program_view l.program;
    }

-- a frame, without the addresses of its texts in memory
abbrev pub frame_view : SourceFrame → FrameRecord
frame_view f =
    record {
      name = option_map (λ n. n.now) f.name;
      path = option_map path_view f.path;
      line = f.line;
      column = f.column;
    }
