use Rattle.std.proofs.Common.{◌≡◌, List}
use Rattle.dwarf_source_frames.specs.FrameViews.{lines_view}
use Rattle.dwarf_frame_changes.specs.Between.{parts_of}
use Rattle.dwarf_frame_changes.specs.Given.{Takes, TurnRecord}
use Rattle.dwarf_frame_changes.specs.UnitNumbers.{ArePartsTold}
use Rattle.dwarf_frame_changes.proofs.MergeLemmas.{AreTurnsSoFar}
use Rattle.dwarf_frame_changes.proofs.merging.UnitParts.push_all_turns.Given as goal

abbrev pub invariant-loop-from : goal.invariant-loop-from
invariant-loop-from g l = record {
  links : l.self.links ≡ l.fn.self.links;
  told : ArePartsTold (g.T.FrameSink.numbers_name l.sink) (g.T.FrameSink.numbers_path l.sink) (g.T.FrameSink.numbers_frames l.sink) (lines_view l.lines) l.self;
  given : (given : List TurnRecord) × Takes (g.T.FrameSink.has_received l.fn.sink) (g.T.FrameSink.has_received l.sink) given
      × AreTurnsSoFar (parts_of (lines_view l.lines) l.rows l.fn.self.links) l.steps.starts.items l.boundaries l.from-index given;
}
