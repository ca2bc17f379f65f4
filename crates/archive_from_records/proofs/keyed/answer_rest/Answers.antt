use Rattle.std.proofs.Common.{None, sym, subst}
use Rattle.join_core.specs.Listing.{listing}
use Rattle.archive_core.specs.Content.{IsMade, Operations}
use Rattle.archive_records.proofs.Contents.{content_is, InOrder-listing}
use Rattle.archive_from_records.proofs.Questioned.{asked_before, asked_last}
use Rattle.archive_from_records.proofs.keyed.answer_rest.Goals as goal

pub returns : goal.returns
returns g c = λ start o content asked.
    let before = c.args.asked.keeper.0 in
    let now = c.answer_passed.new.questions in
    let held = g.A.Join.content c.answer_passed.new.held in
    let passed = c.in_ok-answer_passed.ensures in
    let told = asked_last (g.Q.Questions.left now) (λ o. g.Q.Questions.answered start o now) held (listing o)
    (passed.asked start (listing o) (asked_before (g.Q.Questions.left before)
    (λ o. g.Q.Questions.answered start o before) _ (listing o) None (rw c.in_ok-add_last_slice.ensures.kept asked)))
    (subst IsMade (content_is o) content.itself, InOrder-listing o content) passed.passed in
    (told.0, subst (λ (p : Operations). g.Q.Questions.answered start p now) (sym (content_is o)) told.1)
