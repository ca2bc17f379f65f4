use Rattle.std.proofs.Common.{sym, ◌∙◌}
use Rattle.archive_merge.proofs.Shares.{equal_not_ne, merging_shared, telling_shared}
use Rattle.archive_merge.proofs.merging.share_retirement.Goals as goal

pub returns-in-Ok-clause-merging : goal.returns-in-Ok-clause-merging
returns-in-Ok-clause-merging g c =
    let equal = sym c.requires ∙ equal_not_ne c.args.next (sym c.is_ne.ensures ∙ c.if-is_ne.false) in
    let is = sym c.last_retirement.ensures ∙ c.in-Some.is in
    merging_shared g.B.Side.seen c.args.m.now c.in-Some.retirement c.keep.new.self c.forget.new.self
    c.forget-in-Ok.new.self equal is c.in-Ok.ensures.kept c.forget.ensures.same c.forget.ensures.others
    c.forget-in-Ok.ensures.ahead c.forget-in-Ok.ensures.same c.forget-in-Ok.ensures.others

pub returns-in-Ok-clause-telling : goal.returns-in-Ok-clause-telling
returns-in-Ok-clause-telling g c =
    let equal = sym c.requires ∙ equal_not_ne c.args.next (sym c.is_ne.ensures ∙ c.if-is_ne.false) in
    let is = sym c.last_retirement.ensures ∙ c.in-Some.is in
    telling_shared g.B.Side.seen c.args.m.now c.in-Some.retirement c.keep.new.self c.forget.new.self
    c.forget-in-Ok.new.self equal is c.in-Ok.ensures.kept c.forget.ensures.same c.forget.ensures.others
    c.forget-in-Ok.ensures.ahead c.forget-in-Ok.ensures.same c.forget-in-Ok.ensures.others
