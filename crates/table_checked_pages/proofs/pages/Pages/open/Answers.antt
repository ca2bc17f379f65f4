use Rattle.std.proofs.Common.{arith}
use Rattle.table_checked_pages.specs.Views.{claim_view}
use Rattle.table_checked_pages.proofs.PageLemmas.{lies_within}
use Rattle.table_checked_pages.proofs.pages.Pages.open.Goals as goal

pub returns-in_default-clause-absent : goal.returns-in_default-clause-absent
returns-in_default-clause-absent c = λ text long all are.
    c.in_default.ensures (omega (arith, long, c.digests_len.ensures.is, lies_within text all (claim_view c.args.claim) are))

pub returns-in_default-checked_add-clause-absent : goal.returns-in_default-checked_add-clause-absent
returns-in_default-checked_add-clause-absent c = λ text long all are.
    let first = c.in-Some.ensures.1 in
    c.in_default-checked_add.ensures
    (omega (arith, long, first, c.digests_len.ensures.is, lies_within text all (claim_view c.args.claim) are))
