use Rattle.std.proofs.Common.{Some, ◌∙◌, sym}
use Rattle.archive_core.specs.Record.{admission_record}
use Rattle.archive_records.proofs.Shared.{covered_own, covered_shared}
use Rattle.archive_merge.proofs.borrowed.covers.Goals as goal

pub returns-then-covers_slice-clause-covered : goal.returns-then-covers_slice-clause-covered
returns-then-covers_slice-clause-covered c =
    rw c.in-Admit.is (c.if-covers_slice.true ∙ sym (covered_own (Some c.args.shared.now) c.args.retired.now
    (admission_record c.in-Admit.slice) (sym c.covers_slice.ensures.covered ∙ c.if-covers_slice.true)))

pub returns-else-covers_slice-clause-covered : goal.returns-else-covers_slice-clause-covered
returns-else-covers_slice-clause-covered c =
    let shared = rw c.covers_slice.ensures.same at c.covers_slice-else-covers_slice.ensures.covered in
    rw c.in-Admit.is (shared ∙ sym (covered_shared c.args.shared.now c.args.retired.now
    (admission_record c.in-Admit.slice) (sym c.covers_slice.ensures.covered ∙ c.if-covers_slice.false)))
