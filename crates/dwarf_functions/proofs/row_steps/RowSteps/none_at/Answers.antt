use Rattle.std.proofs.Common.{◌≡◌, None, length, replicate, rules}
use Rattle.dwarf_functions.proofs.RowStepLemmas.{covering_none}
use Rattle.dwarf_functions.proofs.row_steps.RowSteps.none_at.Goals as goal

pub returns : goal.returns
returns c =
    let all_none : c.in_ok-rows.rows.items ≡ replicate (length c.args.addresses.now) None = c.in_ok-rows.ensures.items_if_clones_equal (λ y q. search rules) in
    covering_none c.args.addresses.now c.in_ok-rows.rows.items all_none
