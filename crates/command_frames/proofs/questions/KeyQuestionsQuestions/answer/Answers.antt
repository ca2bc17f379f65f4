use Rattle.command_frames.proofs.Questioned.{told_next}
use Rattle.command_frames.proofs.questions.KeyQuestionsQuestions.answer.Goals as goal

pub returns-clause-answered : goal.returns-clause-answered
returns-clause-answered g c = λ start o answers told. (
  told.0,
  told_next (g.A.Join.content c.args.archive.now) o start.lines c.args.self.now.lines start.left.now c.args.self.now.left.now
      c.in-Some.left.now c.args.self.now.told.items _ _ told.0 c.in_ok-push.ensures.items c.in-Some.ensures.cases.0
      (rw c.deref.ensures.value at c.in_ok-answers.ensures) answers told.1,
)
