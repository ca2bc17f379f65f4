use Rattle.std.proofs.Common.{Some, refl, ap, ◌∙◌, ◌++◌}
use Rattle.std.specs.FinSet as set
use Rattle.archive_core.specs.Record.{admission_record, retirement_record}
use Rattle.archive_records.specs.Reader.{set_of}
use Rattle.archive_records.proofs.FoundOut.{keeps_admission}
use Rattle.archive_records.proofs.Shared.{keeps_retirement}
use Rattle.archive_merge.proofs.borrowed.keep.Goals as goal

pub returns-in-Retire-clause-kept : goal.returns-in-Retire-clause-kept
returns-in-Retire-clause-kept c =
    rw c.in-Retire.is (keeps_retirement (Some c.args.shared.now) c.args.retired.now c.keep.new.self
    (retirement_record c.in-Retire.key c.in-Retire.digest.0) refl
    (c.in_ok-keep.ensures.kept ∙ ap (set.insert (set_of c.args.retired.now)) c.retirement_bytes.ensures))

pub returns-clause-kept : goal.returns-clause-kept
returns-clause-kept c =
    rw c.in_default.is (keeps_admission (c.args.shared.now ++ c.args.retired.now) c.covers.result
    (admission_record c.in_default.field-0) (λ one. cc) (rw c.in_default.is at c.covers.ensures.covered))
