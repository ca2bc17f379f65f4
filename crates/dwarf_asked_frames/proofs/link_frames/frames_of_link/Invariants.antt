use Rattle.std.proofs.Common.{◌≤◌, length, map}
use Rattle.dwarf_functions.specs.LinkViews.{links_view}
use Rattle.dwarf_source_frames.specs.FrameViews.{frame_view, lines_view}
use Rattle.dwarf_asked_frames.proofs.LinkLemmas.{Completes}
use Rattle.dwarf_asked_frames.proofs.link_frames.frames_of_link.Given as goal

abbrev pub invariant-callers : goal.invariant-callers
invariant-callers l = record {
  within : l.left ≤ length l.links.links.items;
  so_far : Completes (lines_view l.lines) (links_view l.links.links.items) l.place l.fn.innermost l.left l.number (map frame_view l.frames.items);
}

abbrev pub decreases-callers : goal.decreases-callers
decreases-callers l = l.left
