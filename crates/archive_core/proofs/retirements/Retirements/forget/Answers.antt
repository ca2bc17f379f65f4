use Rattle.archive_core.proofs.Retired.{others_stay, sorted_without}
use Rattle.archive_core.proofs.retirements.Retirements.forget.Goals as goal

pub invariant_of-self : goal.invariant_of-self
invariant_of-self c = sorted_without c.self.inside.ascending.items c.pop_if_last.new.records.items c.args.retirement.now c.pop_if_last.ensures c.self.invariant

pub returns : goal.returns
returns c =
    rw (← c.self.view_is)
    (others_stay c.self.inside.ascending.items c.pop_if_last.new.records.items c.self.inside.others.keys c.args.retirement.now c.pop_if_last.ensures)
