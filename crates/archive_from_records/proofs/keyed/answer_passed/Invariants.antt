use Rattle.std.proofs.Common.{ℕ, List, length, option_map}
use Rattle.archive_from_records.specs.InnerKeys.{AreAsked, Begins}
use Rattle.archive_from_records.proofs.keyed.answer_passed.Given as goal

abbrev pub invariant-questions : goal.invariant-questions
invariant-questions g l = (start : g.row.Q.Denot) (records : List (List ℕ))
    → AreAsked (Begins (option_map (λ bytes. bytes.now) l.prefix)) (g.Q.Questions.left l.initial.questions)
    (λ o. g.Q.Questions.answered start o l.initial.questions) (g.A.Join.content l.initial.held) records
    → AreAsked (Begins (option_map (λ bytes. bytes.now) l.prefix)) (g.Q.Questions.left l.questions)
    (λ o. g.Q.Questions.answered start o l.questions) (g.A.Join.content l.held) records

abbrev pub decreases-questions : goal.decreases-questions
decreases-questions g l = length (g.Q.Questions.left l.questions)
