use Rattle.std.proofs.Common.{List, [], ◌∷◌, Contains, refl, sym, subst, ◌∙◌}
use Rattle.std.proofs.lemmas.List.Elements.{All-cons, All-nil}
use Rattle.std.proofs.lemmas.Result.{err_from_is_err_and}
use Rattle.byte_device.proofs.Known.{Appends-none}
use Rattle.archive_core.specs.Key.{IsKey}
use Rattle.archive_core.proofs.Members.{in_front}
use Rattle.text_input_files.specs.declared.frame.Frame.{Frame}
use Rattle.command_common.proofs.Endings.{reported}
use Rattle.command_common.proofs.Parts.{together_refused}
use Rattle.command_queries.proofs.Answered.{under_key}
use Rattle.command_frames.proofs.symbolicate.run_symbolicate.Goals as goal

pub returns-in_err-frames-clause-keeps : goal.returns-in_err-frames-clause-keeps
returns-in_err-frames-clause-keeps g c =
    (g.met.E.FrameEvidence.unread c.args.evidence.now c.args.lines c.args.slices).0

pub returns-in_err-frames-clause-ends : goal.returns-in_err-frames-clause-ends
returns-in_err-frames-clause-ends g c =
    let unread = g.met.E.FrameEvidence.unread c.args.evidence.now c.args.lines c.args.slices in
    let p = err_from_is_err_and c.from_residual.result c.from_residual.ensures.1 in
    rw (p.1, p.2) (unread.2, (Appends-none _, refl))

pub answer-requires-clause-under : goal.answer-requires-clause-under
answer-requires-clause-under g c = λ frame there.
    let also = subst (λ (fs : List Frame). Contains fs frame) (c.deref.ensures.value ∙ c.in_ok-frames.ensures) there in
    subst (Contains (c.whole_key.result ∷ []))
    (c.whole_key.ensures.same ∙ sym (under_key c.args.key.now c.args.load c.args.addresses.now frame also))
    (in_front c.whole_key.result [])

pub answer-requires-clause-keyed : goal.answer-requires-clause-keyed
answer-requires-clause-keyed g c =
    All-cons IsKey c.whole_key.result [] (subst IsKey (sym c.whole_key.ensures.same) c.whole_key.ensures.key) (All-nil IsKey)

pub returns-in_err-status-clause-ends : goal.returns-in_err-status-clause-ends
returns-in_err-status-clause-ends g c =
    let p = err_from_is_err_and c.from_residual-in_err-status.result c.from_residual-in_err-status.ensures.1 in
    let refused = rw (c.deref.ensures.value, c.in_ok-frames.ensures) at c.in_err-status.ensures.answers in
    rw (p.1, p.2) (together_refused _ _ _ _ c.in_err-status.field-0.0 refused (Appends-none _, refl))

pub returns-clause-ends : goal.returns-clause-ends
returns-clause-ends g c =
    let told = c.in_ok-status.ensures.answers in
    let tells = rw (c.deref.ensures.value, c.in_ok-frames.ensures, c.whole_key.ensures.same, ← c.deref-2.ensures.value) at told.is in
    reported _ _ _ _ c.write_report_bytes.result _ _ told.unfailed tells c.write_report_bytes.ensures
