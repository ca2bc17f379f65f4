use Rattle.std.proofs.Common.{refl, ◌∙◌}
use Rattle.command_frames.proofs.Questioned.{answered, none_told}
use Rattle.command_frames.proofs.records.answer_frames.Goals as goal

pub answer_frames_by_keys-requires-clause-asked : goal.answer_frames_by_keys-requires-clause-asked
answer_frames_by_keys-requires-clause-asked g c =
    let content = g.A.Join.content c.args.archive.now in
    let questions = c.of-questions.result in
    let told = c.in_ok-answer_all.ensures.answered questions content (λ key there long slices is. is)
    (refl, none_told _ questions.left.now questions.told.items c.of-questions.ensures.told) in
    rw c.deref-2.ensures.value (answered c.args.lines _ content c.args.frames.now c.in_ok-asked.asked.items _ _ _
    c.of-questions.ensures.lines (c.of-questions.ensures.left ∙ c.deref.ensures.value) c.in_ok-asked.ensures.are
    c.in_ok-answer_all.ensures.left told.1).0

pub answer_frames_by_keys-requires-clause-even : goal.answer_frames_by_keys-requires-clause-even
answer_frames_by_keys-requires-clause-even g c =
    let content = g.A.Join.content c.args.archive.now in
    let questions = c.of-questions.result in
    let told = c.in_ok-answer_all.ensures.answered questions content (λ key there long slices is. is)
    (refl, none_told _ questions.left.now questions.told.items c.of-questions.ensures.told) in
    rw c.deref-2.ensures.value (answered c.args.lines _ content c.args.frames.now c.in_ok-asked.asked.items _ _ _
    c.of-questions.ensures.lines (c.of-questions.ensures.left ∙ c.deref.ensures.value) c.in_ok-asked.ensures.are
    c.in_ok-answer_all.ensures.left told.1).1

pub returns : goal.returns
returns g c =
    let content = g.A.Join.content c.args.archive.now in
    let questions = c.of-questions.result in
    let told = c.in_ok-answer_all.ensures.answered questions content (λ key there long slices is. is)
    (refl, none_told _ questions.left.now questions.told.items c.of-questions.ensures.told) in
    (answered c.args.lines _ content c.args.frames.now c.in_ok-asked.asked.items _ _ _
    c.of-questions.ensures.lines (c.of-questions.ensures.left ∙ c.deref.ensures.value) c.in_ok-asked.ensures.are
    c.in_ok-answer_all.ensures.left told.1).2 _ _ (rw c.deref-2.ensures.value at c.in_ok-text.ensures)
