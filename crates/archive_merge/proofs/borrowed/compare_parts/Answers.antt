use Rattle.std.proofs.Common.{sym, ap, ◌∙◌}
use Rattle.std.specs.Ordering.{nat_cmp, ordering_then}
use Rattle.std.specs.Cmp.Lexicographic.{slice_cmp}
use Rattle.archive_merge.proofs.BorrowedSides.{compared, then_first}
use Rattle.archive_merge.proofs.borrowed.compare_parts.Goals as goal

pub returns-in-Equal : goal.returns-in-Equal
returns-in-Equal c =
    let parts = compared c.args.item.now c.args.front.now c.args.rest.now c.split_at.result.0.now
    c.split_at.result.1.now c.min.result c.min.ensures c.split_at.ensures.front c.split_at.ensures.back in
    c.cmp-in-Equal.ensures ∙ sym (parts ∙ ap (λ o. ordering_then o
    (slice_cmp nat_cmp c.split_at.result.1.now c.args.rest.now)) (sym c.cmp.ensures ∙ c.in-Equal.is))

pub returns-in_default : goal.returns-in_default
returns-in_default c =
    let parts = compared c.args.item.now c.args.front.now c.args.rest.now c.split_at.result.0.now
    c.split_at.result.1.now c.min.result c.min.ensures c.split_at.ensures.front c.split_at.ensures.back in
    sym (parts ∙ ap (λ o. ordering_then o (slice_cmp nat_cmp c.split_at.result.1.now c.args.rest.now))
    (sym c.cmp.ensures) ∙ then_first c.cmp.result _ c.in_default.not-Equal)
