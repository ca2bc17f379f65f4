use Rattle.std.proofs.Common.{List, ℕ, subst}
use Rattle.dwarf_source_frames.specs.SectionsViews.{sections_view}
use Rattle.dwarf_source_frames.specs.UnitAddresses.{AreUnitsOf}
use Rattle.dwarf_frame_changes.proofs.unit_steps.UnitSteps.read.Goals as goal

pub returns : goal.returns
returns c = record {
  rising = c.in_ok-starts.ensures.rising;
  all = c.in_ok-starts.ensures.same;
  units = subst (λ (xs : List ℕ). AreUnitsOf (sections_view c.args.info.now.sections) xs c.in_ok-places.places.items)
      c.deref.ensures.value c.in_ok-places.ensures;
}
