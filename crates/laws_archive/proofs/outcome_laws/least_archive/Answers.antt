use Rattle.std.specs.Ordering.{nat_cmp}
use Rattle.std.specs.Cmp.Lexicographic.{slice_cmp}
use Rattle.std.specs.FinSet as set
use Rattle.std.specs.FinSet.{contains-empty}
use Rattle.archive_core.specs.Content.{Operations, IsBelow, IsContent, joined}
use Rattle.archive_core.specs.Order.{below_antisymmetric, below_left, below_reflexive, below_right, joined_below, joined_content}
use Rattle.archive_core.proofs.Made.{below_subset, made_empty}
use Rattle.laws_archive.proofs.outcome_laws.least_archive.Goals as goal

nothing : IsContent set.empty
nothing = record { itself = made_empty; records = λ r h. cc (contains-empty (slice_cmp nat_cmp) r) }

least : (o : Operations) → IsBelow set.empty o
least o = below_subset set.empty o (λ r h. cc (contains-empty (slice_cmp nat_cmp) r))

pub returns : goal.returns
returns c = record {
  content = nothing;
  least = least;
  before = λ o is. below_antisymmetric (joined set.empty o) o (joined_content set.empty o nothing is) is
      (joined_below set.empty o o (least o) (below_reflexive o)) (below_right set.empty o);
  after = λ o is. below_antisymmetric (joined o set.empty) o (joined_content o set.empty is nothing) is
      (joined_below o set.empty o (below_reflexive o) (least o)) (below_left o set.empty);
}
