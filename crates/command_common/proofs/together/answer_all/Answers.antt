use Rattle.std.proofs.Common.{◌∙◌, sym}
use Rattle.archive_from_records.proofs.Questioned.{answers_first}
use Rattle.command_common.proofs.Parts.{behind_there, first_there}
use Rattle.command_common.proofs.together.answer_all.Goals as goal

pub questions-preserved : goal.questions-preserved
questions-preserved g c =
    let left = g.Q.Questions.left c.questions.questions in
    let key = c.in-Some.field-0 in
    let first = sym c.next_key.ensures.key ∙ c.in-Some.is in
    let more = c.in_ok-answer.ensures in
    record {
      within = λ later there. c.questions.invariant.within later (behind_there left later (rw more.left at there));
      answered = λ start o alike was.
          more.answered start o (answers_first left key (g.A.Join.content c.args.archive.now) o first
          (alike key (c.questions.invariant.within key (first_there left key first)) c.in-Some.ensures.long))
          (c.questions.invariant.answered start o alike was);
    }
