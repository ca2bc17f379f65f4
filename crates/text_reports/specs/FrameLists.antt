-- Lists of frames of the code, in the terms of the definitions.
use Rattle.std.specs.Prelude.{List, map}
use Rattle.std.specs.Borrow.{Bor}
use Rattle.dwarf_source_frames.specs.Frames.{FrameRecord}
use Rattle.dwarf_source_frames.specs.FrameViews.{frame_view}
use Rattle.dwarf_source_frames.specs.declared.frame.SourceFrame.{SourceFrame}

-- frames, without the memory of their texts
abbrev pub list_view : List SourceFrame → List FrameRecord
list_view frames = map (λ frame. frame_view frame) frames

-- the frames of several slices, without their memory
abbrev pub lists_view : List (Bor (List SourceFrame)) → List (List FrameRecord)
lists_view lists = map (λ frames. list_view frames.now) lists
