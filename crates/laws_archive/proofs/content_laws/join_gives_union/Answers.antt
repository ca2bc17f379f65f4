use Rattle.archive_core.proofs.Joined.{least_is_joined}
use Rattle.laws_archive.proofs.content_laws.join_gives_union.Goals as goal

pub returns : goal.returns
returns g c =
    let join = g.A.Join in
    let law = g.met.A.Archive in
    λ o p both a b. least_is_joined join.is_content join.below law.is_content_is law.below_is o p both a b
