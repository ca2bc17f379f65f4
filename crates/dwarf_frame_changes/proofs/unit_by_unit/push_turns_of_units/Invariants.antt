use Rattle.std.proofs.Common.{List}
use Rattle.dwarf_frame_changes.specs.ByProgram.{AreRowsOfLast, places}
use Rattle.dwarf_frame_changes.specs.Given.{Takes, TurnRecord}
use Rattle.dwarf_source_frames.specs.SectionsViews.{sections_view}
use Rattle.dwarf_frame_changes.proofs.GivenLemmas.{SoFar}
use Rattle.dwarf_frame_changes.proofs.unit_by_unit.push_turns_of_units.Given as goal

abbrev pub invariant-loop-unit : goal.invariant-loop-unit
invariant-loop-unit g l = record {
  last : AreRowsOfLast (sections_view l.info.sections) l.last;
  given : (given : List TurnRecord) × Takes (g.T.FrameSink.has_received l.fn.sink) (g.T.FrameSink.has_received l.sink) given
      × SoFar (sections_view l.info.sections) (places l.unit-items) l.unit-index given;
}
