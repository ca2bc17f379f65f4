use Rattle.std.proofs.Common.{sym, ◌∙◌}
use Rattle.archive_records.proofs.Shared.{covered_own, covered_shared}
use Rattle.archive_records.proofs.retired.retires_beside.Goals as goal

pub returns-then-retires-clause-retires : goal.returns-then-retires-clause-retires
returns-then-retires-clause-retires c = λ r. sym (covered_own _ c.args.retired.now c.args.bytes.now (sym (c.retires.ensures.retires r) ∙ c.if-retires.true))

pub returns-in-Some-clause-retires : goal.returns-in-Some-clause-retires
returns-in-Some-clause-retires c = λ r.
    let none = sym (c.if-retires.ensures.retires r) in
    rw c.in-Some.is (c.retires-in-Some.ensures.retires r ∙ sym (covered_shared c.in-Some.shared.now c.args.retired.now c.args.bytes.now none))
