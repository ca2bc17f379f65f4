use Rattle.archive_index.proofs.InTurn.{in_turn}
use Rattle.archive_index.proofs.taking.sort_with_same_effect.Goals as goal

pub returns : goal.returns
returns c =
    let parts = c.in_ok-admissions.field-0 in
    in_turn c.args.operations.items parts.admissions.items parts.retirements.items c.append.new.self.items
    c.order.new.operations.items c.in_ok-admissions.ensures c.in_ok-append.ensures.items c.order.ensures
