use Rattle.std.proofs.Common.{Err, refl, ◌∙◌, inr}
use Rattle.archive_records.proofs.Blamed.{failed}
use Rattle.byte_device.proofs.Known.{Appends-none}
use Rattle.command_common.specs.declared.faults.CommandFault.TheVariants.{OutOfMemory}
use Rattle.command_archives.specs.Retire.{retire}
use Rattle.command_archives.proofs.Noted.{missing_noted}
use Rattle.command_archives.proofs.Streamed.{stopped_begun}
use Rattle.command_archives.proofs.Joined.{retire_published}
use Rattle.command_archives.proofs.Taking.{always}
use Rattle.command_archives.proofs.retire.run_retire.Goals as goal

pub returns-in_err-written-clause-ends : goal.returns-in_err-written-clause-ends
returns-in_err-written-clause-ends g c =
    rw (failed c.from_residual.result _ c.from_residual.ensures.1)
    (stopped_begun _ (λ input. retire input c.args.key c.args.digest) _ _ _ c.in_err-written.ensures.1 c.in_err-written.ensures.2 c.in_err-written.ensures.0
    (refl, refl) (Appends-none _, refl))

pub returns-in_err-note_missing-clause-ends : goal.returns-in_err-note_missing-clause-ends
returns-in_err-note_missing-clause-ends g c =
    let i = c.in_ok-written.ensures in
    rw (failed c.from_residual-in_err-note_missing.result _ c.from_residual-in_err-note_missing.ensures.1)
    (retire_published _ _ _ _ _ _ _ i _ _ (Err OutOfMemory)
    (inr (i.written_is.written, i.written_is.unfailed), (refl, refl), (Appends-none _, refl)))

pub returns-in_err-lines-clause-ends : goal.returns-in_err-lines-clause-ends
returns-in_err-lines-clause-ends g c =
    let i = c.in_ok-written.ensures in
    rw (failed c.from_residual-in_err-lines.result _ c.from_residual-in_err-lines.ensures.1)
    (retire_published _ _ _ _ _ _ _ i _ _ (Err OutOfMemory)
    (inr (i.written_is.written, i.written_is.unfailed), (refl, refl), (Appends-none _, refl)))

pub returns-clause-ends : goal.returns-clause-ends
returns-clause-ends g c =
    let i = c.in_ok-written.ensures in
    retire_published _ _ _ _ _ _ _ i _ _ c.publish_draft.result
    (rw c.in_ok-lines.ensures at c.publish_draft.ensures c.args.out.now.draft _
    (i.written_is.written, i.written_is.unfailed) i.written_is.bytes_are)

pub returns-clause-noted : goal.returns-clause-noted
returns-clause-noted g c =
    let i = c.in_ok-written.ensures in
    always c.publish_draft.result (record {
      before = i.before;
      is_content = i.is_content;
      archive = i.archive;
      added = c.in_ok-note_missing.ensures ∙ missing_noted i.before c.args.key c.args.digest c.args.notes.now.items c.in_ok-written.written.had i.had_is;
    })
