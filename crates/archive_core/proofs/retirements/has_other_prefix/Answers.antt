use Rattle.std.proofs.Common.{sym, ◌∙◌, ap}
use Rattle.std.specs.Ordering.{is_eq}
use Rattle.archive_core.proofs.Retired.{begins_between, held_by}
use Rattle.archive_core.proofs.retirements.has_other_prefix.Goals as goal

pub returns-in-Some : goal.returns-in-Some
returns-in-Some c = λ r begins long there.
    let within = c.range.ensures.in_range tt in
    let above = rw c.in-Some.ensures.steps at within.1 in
    let below = rw c.in-Some.ensures.steps at within.2 r (c.least_of.ensures.least r begins long, tt) (held_by c.args.records.now.keys r ∙ there) in
    c.is_eq.ensures ∙ ap is_eq c.compare_prefix.ensures
    ∙ begins_between 25 c.least_of.result c.in-Some.first.now r c.args.prefix.now c.least_of.ensures.prefix begins
    above.0.0 below

pub returns-in-None : goal.returns-in-None
returns-in-None c = λ r begins long there.
    let within = c.range.ensures.in_range tt in
    sym (within.5 c.in-None.ensures.steps.0 r (c.least_of.ensures.least r begins long, tt)) ∙ held_by c.args.records.now.keys r ∙ there
