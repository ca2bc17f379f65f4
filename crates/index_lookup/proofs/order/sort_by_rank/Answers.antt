use Rattle.std.proofs.Common.{rules}
use Rattle.std.specs.Ordering.{nat_cmp, is_lt}
use Rattle.std.specs.Cmp.Lexicographic.{slice_cmp, nat_list_cmp_total}
use Rattle.std.proofs.lemmas.Fn.{always_returns_same}
use Rattle.std.proofs.lemmas.List.MinMax.{ranks_by}
use Rattle.std.proofs.lemmas.List.Sorted.{IsPermutation-map}
use Rattle.index_lookup.specs.InnerAnswering.{entry_at, rank_in}
use Rattle.index_lookup.specs.declared.numbered.Numbered.{Numbered}
use Rattle.index_format.proofs.Sorted.{sorted_map}
use Rattle.index_lookup.proofs.order.sort_by_rank.Goals as goal

pub returns-clause-moved : goal.returns-clause-moved
returns-clause-moved c = IsPermutation-map entry_at _ _ c.sort_unstable_by.ensures.permutation

pub returns-clause-sorted : goal.returns-clause-sorted
returns-clause-sorted c =
    sorted_map entry_at (λ a b. is_lt (slice_cmp nat_cmp (rank_in a) (rank_in b))) c.sort_unstable_by.new.self.items
    (c.sort_unstable_by.ensures.sorted (λ x y. is_lt (slice_cmp nat_cmp (rank_in (entry_at x)) (rank_in (entry_at y))))
    (ranks_by nat_list_cmp_total (λ (x : Numbered). rank_in (entry_at x)))
    (always_returns_same _ _ _ (λ a r f called. (search rules, search rules))))
