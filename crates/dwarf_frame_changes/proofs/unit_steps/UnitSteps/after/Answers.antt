use Rattle.std.proofs.Common.{ℕ, ◌∙◌, List, slice_get, ap, subst, sym}
use Rattle.dwarf_asked_addresses.specs.Rising.{AreRising}
use Rattle.dwarf_frame_changes.specs.Between.{IsCountTo}
use Rattle.dwarf_frame_changes.proofs.StepWalks.{next_above}
use Rattle.dwarf_frame_changes.proofs.unit_steps.UnitSteps.after.Goals as goal

pub returns : goal.returns
returns c = λ rising.
    let starts : List ℕ = c.args.self.now.starts.items in
    let counted : IsCountTo starts c.args.address c.count_to.result =
    subst (λ (xs : List ℕ). IsCountTo xs c.args.address c.count_to.result) c.deref-2.ensures.value
    (c.count_to.ensures (subst (λ (xs : List ℕ). AreRising xs) (sym c.deref-2.ensures.value) rising)) in
    next_above starts c.args.address c.count_to.result c.start_at.result rising counted
    (c.start_at.ensures ∙ ap (λ (xs : List ℕ). slice_get xs c.count_to.result) c.deref.ensures.value)
