use Rattle.archive_from_records.proofs.Questioned.{answers_first}
use Rattle.archive_from_records.proofs.keyed.answer_next.Goals as goal

pub returns-then-not-is_next-clause-answered : goal.returns-then-not-is_next-clause-answered
returns-then-not-is_next-clause-answered g c = λ start o told answered.
    c.in_ok-answer.ensures.answered start o (answers_first _ c.args.key.now _ o c.requires told) answered

pub returns-else-not-is_next-clause-answered : goal.returns-else-not-is_next-clause-answered
returns-else-not-is_next-clause-answered g c = λ start o told answered.
    c.in_ok-answer.ensures.answered start o (answers_first _ c.args.key.now _ o c.requires told) answered
