use Rattle.std.proofs.Common.{◌≡◌, Contains, length}
use Rattle.archive_core.specs.Content.{Operations}
use Rattle.archive_core.specs.Key.{key_bytes}
use Rattle.archive_core.specs.declared.keys.SliceKey.{SliceKey}
use Rattle.archive_from_records.specs.Keys.{AnswersAs}
use Rattle.command_common.proofs.together.answer_all.Given as goal

abbrev pub invariant-questions : goal.invariant-questions
invariant-questions g l = record {
  within : (key : SliceKey) → Contains (g.Q.Questions.left l.questions) key → Contains (g.Q.Questions.left l.initial.questions) key;
  answered : (start : g.row.Q.Denot) (o : Operations)
      → ((key : SliceKey) → Contains (g.Q.Questions.left l.initial.questions) key → length (key_bytes key) ≡ 24 → AnswersAs key (g.A.Join.content l.archive) o)
      → g.Q.Questions.answered start o l.initial.questions → g.Q.Questions.answered start o l.questions;
}

abbrev pub decreases-questions : goal.decreases-questions
decreases-questions g l = length (g.Q.Questions.left l.questions)
