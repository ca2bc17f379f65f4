use Rattle.std.proofs.Common.{List, ℕ, rules, ap, ◌∙◌}
use Rattle.std.specs.Ordering.{nat_cmp, is_lt}
use Rattle.std.specs.Cmp.Lexicographic.{slice_cmp, nat_list_cmp_total}
use Rattle.std.proofs.lemmas.Fn.{always_returns_same}
use Rattle.std.proofs.lemmas.List.MinMax.{ranks_by}
use Rattle.index_lookup.specs.InnerAnswering.{is_retired}
use Rattle.index_lookup.proofs.Retirements.{retired_sorted}
use Rattle.index_lookup.proofs.retired.retired_under.Goals as goal

pub returns-clause-same : goal.returns-clause-same
returns-clause-same c = retired_sorted _ _ c.sort_unstable_by.ensures.permutation ∙ ap is_retired c.in_ok-retired.ensures

pub returns-clause-sorted : goal.returns-clause-sorted
returns-clause-sorted c =
    c.sort_unstable_by.ensures.sorted (λ x y. is_lt (slice_cmp nat_cmp x y))
    (ranks_by nat_list_cmp_total (λ (subject : List ℕ). subject))
    (always_returns_same _ _ _ (λ a r f called. (search rules, search rules)))
