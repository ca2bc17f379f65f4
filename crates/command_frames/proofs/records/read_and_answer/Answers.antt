use Rattle.std.proofs.Common.{refl, sym, ◌∙◌}
use Rattle.command_common.proofs.Parts.{together_tells, wanting_first}
use Rattle.command_frames.proofs.Questioned.{answered, asked_picked, none_told}
use Rattle.command_frames.proofs.records.read_and_answer.Goals as goal

pub returns-in_err-asked : goal.returns-in_err-asked
returns-in_err-asked g c = wanting_first _ _ _ _ _ _ c.from_residual.ensures.1 refl

pub answer_archives-requires-clause-start : goal.answer_archives-requires-clause-start
answer_archives-requires-clause-start g c = λ o.
    let questions = c.of-questions.result in
    (refl, none_told _ questions.left.now questions.told.items c.of-questions.ensures.told)

pub answer_archives-requires-clause-picked : goal.answer_archives-requires-clause-picked
answer_archives-requires-clause-picked g c = λ key there long r under.
    asked_picked c.deref-2.result.now key (rw (c.of-questions.ensures.left ∙ c.deref.ensures.value ∙ sym c.deref-2.ensures.value) at there) long r under

pub answer_frames_by_keys-requires-clause-asked : goal.answer_frames_by_keys-requires-clause-asked
answer_frames_by_keys-requires-clause-asked g c =
    let told = c.in_ok-told.ensures.is.is_true in
    rw c.deref-3.ensures.value (answered c.args.lines _ _ c.args.frames.now c.in_ok-asked.asked.items _ _ _
    c.of-questions.ensures.lines (c.of-questions.ensures.left ∙ c.deref.ensures.value) c.in_ok-asked.ensures.are
    told.0 told.1.1).0

pub answer_frames_by_keys-requires-clause-even : goal.answer_frames_by_keys-requires-clause-even
answer_frames_by_keys-requires-clause-even g c =
    let told = c.in_ok-told.ensures.is.is_true in
    rw c.deref-3.ensures.value (answered c.args.lines _ _ c.args.frames.now c.in_ok-asked.asked.items _ _ _
    c.of-questions.ensures.lines (c.of-questions.ensures.left ∙ c.deref.ensures.value) c.in_ok-asked.ensures.are
    told.0 told.1.1).1

pub returns : goal.returns
returns g c = record {
  is = together_tells _ _ _ _ (λ o told. (answered c.args.lines _ o c.args.frames.now c.in_ok-asked.asked.items _ _ _
      c.of-questions.ensures.lines (c.of-questions.ensures.left ∙ c.deref.ensures.value) c.in_ok-asked.ensures.are
      told.0 told.1.1).2 _ _ (rw c.deref-3.ensures.value at c.in_ok-text.ensures)) c.in_ok-told.ensures.is;
  unfailed = c.in_ok-told.ensures.unfailed;
}
