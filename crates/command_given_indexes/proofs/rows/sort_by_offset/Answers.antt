use Rattle.std.proofs.Common.{rules}
use Rattle.std.specs.Ordering.{nat_cmp, is_lt}
use Rattle.std.proofs.lemmas.Cmp.{nat_cmp_total}
use Rattle.std.proofs.lemmas.Fn.{always_returns_same}
use Rattle.std.proofs.lemmas.List.Sorted.{IsPermutation-map, ranks_by}
use Rattle.index_format.specs.declared.entry.IndexEntry.{IndexEntry}
use Rattle.index_format.specs.Entry.{offset_in, placed_bytes}
use Rattle.command_given_indexes.specs.Rows.{stands_before}
use Rattle.index_format.proofs.Sorted.{sorted_map}
use Rattle.command_given_indexes.proofs.rows.sort_by_offset.Goals as goal

pub returns-clause-moved : goal.returns-clause-moved
returns-clause-moved c = IsPermutation-map placed_bytes _ _ c.sort_unstable_by.ensures.permutation

pub returns-clause-sorted : goal.returns-clause-sorted
returns-clause-sorted c =
    sorted_map placed_bytes stands_before c.sort_unstable_by.new.self.items
    (c.sort_unstable_by.ensures.sorted (λ x y. is_lt (nat_cmp (offset_in (placed_bytes x))
    (offset_in (placed_bytes y)))) (ranks_by nat_cmp_total (λ (x : IndexEntry). offset_in (placed_bytes x)))
    (always_returns_same _ _ _ (λ a r f called. (search rules, search rules))))
