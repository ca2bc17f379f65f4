use Rattle.std.proofs.Common.{◌≤◌, ◌-◌, [], length}
use Rattle.dwarf_functions.specs.LinkViews.{links_view}
use Rattle.dwarf_source_frames.specs.FrameViews.{lines_view}
use Rattle.dwarf_frame_changes.specs.Given.{Takes}
use Rattle.dwarf_frame_changes.specs.UnitNumbers.{AreLinked, AreNameNumbers, ArePathNumbers}
use Rattle.dwarf_frame_changes.proofs.numbers.number_links.Given as goal

abbrev pub invariant-links : goal.invariant-links
invariant-links g l = record {
  within : length l.all.items ≤ length l.links.links.items;
  names : AreNameNumbers (g.T.FrameSink.numbers_name l.sink) l.links l.names;
  paths : ArePathNumbers (g.T.FrameSink.numbers_path l.sink) (lines_view l.lines) l.paths;
  linked : AreLinked (g.T.FrameSink.numbers_name l.sink) (g.T.FrameSink.numbers_frames l.sink) (lines_view l.lines)
      (links_view l.links.links.items) (length l.all.items) l.all.items;
  taken : Takes (g.T.FrameSink.has_received l.fn.sink) (g.T.FrameSink.has_received l.sink) [];
}

abbrev pub decreases-links : goal.decreases-links
decreases-links g l = length l.links.links.items - length l.all.items
