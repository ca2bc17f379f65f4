use Rattle.std.proofs.{Common.refl, lemmas.Result.err_from_is_err_and}
use Rattle.byte_device.proofs.Known.{Appends-none}
use Rattle.command_common.proofs.{Endings.reported}
use Rattle.command_common.proofs.Parts.{together_refused, together_tells}
use Rattle.cli_run.proofs.queries.name.Goals as goal
use Rattle.command_archives.proofs.Taking.{always as on_any}

pub returns-in_err-answer-clause-ends : goal.returns-in_err-answer-clause-ends
returns-in_err-answer-clause-ends g c =
    let p = err_from_is_err_and c.from_residual.result c.from_residual.ensures.1 in
    rw (p.1, p.2) (together_refused _ _ _ _ c.in_err-answer.field-0.0 c.in_err-answer.ensures (Appends-none _, refl))

pub returns-in_err-note_underscored-clause-ends : goal.returns-in_err-note_underscored-clause-ends
returns-in_err-note_underscored-clause-ends g c =
    let p = err_from_is_err_and c.from_residual-in_err-note_underscored.result c.from_residual-in_err-note_underscored.ensures.1 in
    rw (p.1, p.2) (c.in_ok-answer.ensures.unfailed, (Appends-none _, refl))

pub returns-clause-ends : goal.returns-clause-ends
returns-clause-ends g c =
    reported _ _ _ _ c.write_report.result _ _ c.in_ok-answer.ensures.unfailed
    (together_tells _ _ _ _ (λ o told. rw c.deref.ensures told.0) c.in_ok-answer.ensures.is) c.write_report.ensures

pub returns-clause-noted : goal.returns-clause-noted
returns-clause-noted g c =
    on_any c.write_report.result
    (c.in_ok-answer.answer.is_underscored, together_tells _ _ _ _ (λ o told. told.1) c.in_ok-answer.ensures.is, c.in_ok-note_underscored.ensures)
