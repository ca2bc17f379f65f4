use Rattle.std.proofs.Common.{subst, sym, ◌∙◌}
use Rattle.archive_core.specs.Content.{IsContent, IsBelow}
use Rattle.archive_index.proofs.Held.{content_of_held}
use Rattle.archive_index.proofs.Merged.{known_is_below, below_is_known}
use Rattle.archive_index.proofs.plain.PlainArchiveJoin.covers.Goals as goal

pub returns-clause-answer : goal.returns-clause-answer
returns-clause-answer c =
    let o = c.args.self.now in
    let theirs = c.other.inside.operations.items in
    let all = rw c.deref.ensures.value at c.knows_each.ensures.knows in (
      λ t. subst (λ p. IsBelow p o) c.other.view_is (known_is_below o theirs (sym all ∙ t)),
      λ below. all ∙ below_is_known o theirs c.other.invariant (subst (λ p. IsBelow p o) (sym c.other.view_is) below),
    )

pub returns-clause-other_is_content : goal.returns-clause-other_is_content
returns-clause-other_is_content c = subst IsContent c.other.view_is (content_of_held c.other.inside.operations.items c.other.invariant)
