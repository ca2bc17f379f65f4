use Rattle.std.proofs.Common.{option_map, sym, ◌∙◌}
use Rattle.archive_from_records.proofs.Questioned.{answered_next}
use Rattle.archive_from_records.proofs.keyed.answer_passed.Goals as goal

pub questions-preserved : goal.questions-preserved
questions-preserved g c = λ start records asked.
    let more = c.in_ok-answer_next.ensures in
    answered_next (option_map (λ bytes. bytes.now) c.args.prefix) (g.Q.Questions.left c.questions.questions)
    (g.Q.Questions.left c.answer_next.new.questions)
    (λ o. g.Q.Questions.answered start o c.questions.questions) (λ o. g.Q.Questions.answered start o c.answer_next.new.questions)
    (g.A.Join.content c.questions.held) (g.A.Join.content c.answer_next.new.held) records c.in-Some.key
    (sym c.next_key.ensures ∙ c.in-Some.is) more.left c.is_passed.ensures.long
    (sym c.is_passed.ensures.passed ∙ c.if-not-is_passed.false) more.held (λ o. more.answered start o)
    (c.questions.invariant start records asked)
