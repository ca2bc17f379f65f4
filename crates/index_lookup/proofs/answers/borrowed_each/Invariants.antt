use Rattle.std.proofs.Common.{◌≡◌, map, take}
use Rattle.table_source_frames.specs.FrameViews.{owned_frame_view}
use Rattle.index_lookup.specs.Views.{borrowed_in}
use Rattle.index_lookup.proofs.answers.borrowed_each.Given as goal

abbrev pub invariant-frames : goal.invariant-frames
invariant-frames l = borrowed_in l.borrowed ≡ map owned_frame_view (take l.frame-index l.frames)
