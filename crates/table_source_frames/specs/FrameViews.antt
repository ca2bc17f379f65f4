-- The frames that were read, as the definitions have them.
use Rattle.std.specs.Prelude.{List, map}
use Rattle.std.specs.Option.{option_map}
use Rattle.dwarf_lines.specs.Paths.{PathRecord}
use Rattle.dwarf_source_frames.specs.Frames.{FrameRecord}
use Rattle.table_source_frames.specs.declared.frame.OwnedFrame.{OwnedFrame}
use Rattle.table_source_frames.specs.declared.frame.OwnedPath.{OwnedPath}

-- a path
abbrev pub owned_path_view : OwnedPath → PathRecord
owned_path_view p = record { base = p.base.items; directory = p.directory.items; name = p.name.items }

-- a frame
abbrev pub owned_frame_view : OwnedFrame → FrameRecord
owned_frame_view f =
    record {
      name = option_map (λ n. n.items) f.name;
      path = option_map owned_path_view f.path;
      line = f.line;
      column = f.column;
    }

-- frames
abbrev pub owned_frames : List OwnedFrame → List FrameRecord
owned_frames frames = map owned_frame_view frames
