use Rattle.std.proofs.Common.{rules}
use Rattle.std.specs.Ordering.{nat_cmp, is_lt, eq_by_cmp}
use Rattle.std.specs.Cmp.Lexicographic.{slice_cmp, nat_list_cmp_total}
use Rattle.std.proofs.lemmas.Fn.{always_returns_same, dedup_same}
use Rattle.std.proofs.lemmas.List.MinMax.{ranks_by}
use Rattle.index_format.specs.Entry.{entry_bytes}
use Rattle.index_build.proofs.Sorted.{listing_kept}
use Rattle.index_build.proofs.entries.sorted.Goals as goal

pub returns : goal.returns
returns c =
    let by_bytes = c.sort_unstable_by.ensures.sorted (λ x y. is_lt (slice_cmp nat_cmp (entry_bytes x) (entry_bytes y)))
    (ranks_by nat_list_cmp_total entry_bytes) (always_returns_same _ _ _
    (λ a r f called. (search rules, search rules))) in
    let once = dedup_same _ (λ x y. eq_by_cmp (slice_cmp nat_cmp) (entry_bytes x) (entry_bytes y)) _
    (λ x y b f x' y' called. search rules) _ _ c.dedup_by.ensures.filtered in
    listing_kept entry_bytes _ _ _ c.sort_unstable_by.ensures.permutation once by_bytes
