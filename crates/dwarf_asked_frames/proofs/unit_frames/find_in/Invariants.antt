use Rattle.std.proofs.Common.{ℕ, ◌<◌, get_or}
use Rattle.dwarf_asked_frames.specs.FoundFrames.{AreRight, IsFound}
use Rattle.dwarf_source_frames.specs.SectionsViews.{sections_view}
use Rattle.dwarf_asked_frames.proofs.unit_frames.find_in.Given as goal

abbrev pub invariant-loop-i : goal.invariant-loop-i
invariant-loop-i l = record {
  right : AreRight (sections_view l.info.sections) l.found;
  each : (k : ℕ) → k < l.i → IsFound (sections_view l.info.sections) l.found (get_or l.addresses k 0);
  kept : (a : ℕ) → IsFound (sections_view l.info.sections) l.fn.found a → IsFound (sections_view l.info.sections) l.found a;
}
