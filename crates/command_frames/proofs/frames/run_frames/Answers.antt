use Rattle.std.proofs.Common.{List, Contains, refl, sym, ap, subst, ◌∙◌, inl, inr}
use Rattle.std.proofs.lemmas.Result.{err_from_is_err_and}
use Rattle.byte_device.proofs.Known.{Appends-none}
use Rattle.archive_core.specs.declared.keys.SliceKey.{SliceKey}
use Rattle.archive_core.proofs.Members.{to_map}
use Rattle.text_input_files.specs.declared.frame.Frame.{Frame}
use Rattle.command_common.proofs.Parts.{refusal_of, together_refused}
use Rattle.command_common.proofs.Endings.{reported}
use Rattle.command_queries.specs.Frames.{frame_keys}
use Rattle.command_frames.proofs.frames.run_frames.Goals as goal

pub returns-in_err-frames-clause-keeps : goal.returns-in_err-frames-clause-keeps
returns-in_err-frames-clause-keeps g c =
    (g.met.E.FrameEvidence.unread c.args.evidence.now c.args.lines c.args.slices).0

pub returns-in_err-frames-clause-ends : goal.returns-in_err-frames-clause-ends
returns-in_err-frames-clause-ends g c =
    let unread = g.met.E.FrameEvidence.unread c.args.evidence.now c.args.lines c.args.slices in
    let p = err_from_is_err_and c.from_residual.result c.from_residual.ensures.1 in
    rw (p.1, p.2) (together_refused _ _ _ _ c.in_err-frames.field-0.0
    (refusal_of _ _ _ _ c.in_err-frames.field-0.0 (λ at why refused. inl (refused, unread.1)) (λ u. (u, unread.2)) c.in_err-frames.ensures)
    (Appends-none _, refl))

pub returns-in_err-keys-clause-keeps : goal.returns-in_err-keys-clause-keeps
returns-in_err-keys-clause-keeps g c =
    (g.met.E.FrameEvidence.unread c.args.evidence.now c.args.lines c.args.slices).0

pub returns-in_err-keys-clause-ends : goal.returns-in_err-keys-clause-ends
returns-in_err-keys-clause-ends g c =
    let unread = g.met.E.FrameEvidence.unread c.args.evidence.now c.args.lines c.args.slices in
    let p = err_from_is_err_and c.from_residual-in_err-keys.result c.from_residual-in_err-keys.ensures.1 in
    rw (p.1, p.2) ((c.in_ok-frames.ensures.unfailed, unread.2), (Appends-none _, refl))

pub answer-requires-clause-under : goal.answer-requires-clause-under
answer-requires-clause-under g c = λ frame there.
    let frames = c.in_ok-frames.frames.items in
    let also : Contains frames frame = subst (λ (fs : List Frame). Contains fs frame) c.deref-3.ensures.value there in
    subst (λ (ks : List SliceKey). Contains ks frame.key)
    (sym (c.deref-2.ensures.value ∙ c.in_ok-keys.ensures.are ∙ ap frame_keys c.deref.ensures.value))
    (to_map (λ (one : Frame). one.key) frames frame also)

pub returns-in_err-status-clause-ends : goal.returns-in_err-status-clause-ends
returns-in_err-status-clause-ends g c =
    let p = err_from_is_err_and c.from_residual-in_err-status.result c.from_residual-in_err-status.ensures.1 in
    let listed = c.in_ok-frames.ensures in
    let refused = rw c.deref-3.ensures.value at c.in_err-status.ensures.answers in
    rw (p.1, p.2) (together_refused _ _ _ _ c.in_err-status.field-0.0
    (refusal_of _ _ _ _ c.in_err-status.field-0.0
    (λ at why also. inr ((c.in_ok-frames.frames.items, listed.is), listed.unfailed, also)) (λ u. (listed.unfailed, u)) refused)
    (Appends-none _, refl))

pub returns-clause-ends : goal.returns-clause-ends
returns-clause-ends g c =
    let listed = c.in_ok-frames.ensures in
    let keys = c.deref-2.ensures.value ∙ c.in_ok-keys.ensures.are ∙ ap frame_keys c.deref.ensures.value in
    let told = c.in_ok-status.ensures.answers in
    let tells = rw (keys, c.deref-3.ensures.value, ← c.deref-4.ensures.value) at told.is in
    reported _ _ _ _ c.write_report_bytes.result _ _ (listed.unfailed, told.unfailed)
    (record { listed = c.in_ok-frames.frames.items; frames_are = listed.is; tells = tells }) c.write_report_bytes.ensures
