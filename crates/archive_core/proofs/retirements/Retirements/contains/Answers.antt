use Rattle.std.proofs.Common.{sym, ◌∙◌}
use Rattle.archive_core.proofs.Retired.{held_by, in_first, in_second, is_there}
use Rattle.archive_core.proofs.retirements.Retirements.contains.Goals as goal

pub returns-then-is_ok : goal.returns-then-is_ok
returns-then-is_ok c =
    let there = sym (is_there c.deref.result.now c.args.retirement.now c.search.result c.search.ensures.found) ∙ sym c.is_ok.ensures.value ∙ c.if-is_ok.true in
    c.if-is_ok.true ∙ sym (in_first c.self.inside.ascending.items c.self.inside.others.keys c.args.self.now
    c.args.retirement.now c.self.view_is (rw c.deref.ensures.value at there))

pub returns-else-is_ok : goal.returns-else-is_ok
returns-else-is_ok c =
    let none = sym (is_there c.deref.result.now c.args.retirement.now c.search.result c.search.ensures.found) ∙ sym c.is_ok.ensures.value ∙ c.if-is_ok.false in
    c.contains.ensures ∙ held_by c.self.inside.others.keys c.args.retirement.now
    ∙ sym (in_second c.self.inside.ascending.items c.self.inside.others.keys c.args.self.now c.args.retirement.now
    c.self.view_is (rw c.deref.ensures.value at none))
