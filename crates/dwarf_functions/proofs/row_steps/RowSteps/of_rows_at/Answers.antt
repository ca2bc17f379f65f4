use Rattle.std.proofs.Common.{ℕ, ◌≡◌, List, subst, sym}
use Rattle.dwarf_asked_addresses.specs.Rising.{AreRising}
use Rattle.dwarf_functions.specs.RowCover.{AreCovered}
use Rattle.dwarf_functions.proofs.RowStepLemmas.{covering_of}
use Rattle.dwarf_functions.proofs.row_steps.RowSteps.of_rows_at.Goals as goal

pub covering-requires : goal.covering-requires
covering-requires c =
    let same : c.in_ok-starts.starts.items ≡ c.args.addresses.now = c.in_ok-starts.ensures.items_if_clones_equal (λ x y q. q) in
    subst (λ (xs : List ℕ). AreRising xs) (sym same) c.requires

pub returns : goal.returns
returns c =
    let same : c.in_ok-starts.starts.items ≡ c.args.addresses.now = c.in_ok-starts.ensures.items_if_clones_equal (λ x y q. q) in
    covering_of c.args.rows c.args.addresses.now c.in_ok-steps.steps.rows.items
    (subst (λ (xs : List ℕ). AreCovered c.args.rows xs c.in_ok-steps.steps.rows.items) same c.in_ok-steps.ensures.rows)
