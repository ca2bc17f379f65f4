use Rattle.std.proofs.Common.{rules}
use Rattle.std.specs.Ordering.{nat_cmp, is_lt, eq_by_cmp}
use Rattle.std.specs.Cmp.Lexicographic.{slice_cmp, nat_list_cmp_total}
use Rattle.std.proofs.lemmas.Fn.{always_returns_same, dedup_same}
use Rattle.std.proofs.lemmas.List.MinMax.{ranks_by}
use Rattle.archive_records.specs.Entry.{entry_bytes}
use Rattle.archive_records.proofs.Summarised.{set_kept, listed_kept}
use Rattle.archive_records.proofs.summary.Summary.of_entries.Goals as goal

pub invariant_of-result : goal.invariant_of-result
invariant_of-result c =
    let by_bytes = c.sort_unstable_by.ensures.sorted (λ x y. is_lt (slice_cmp nat_cmp (entry_bytes x) (entry_bytes y)))
    (ranks_by nat_list_cmp_total entry_bytes) (always_returns_same _ _ _
    (λ a r f called. (search rules, search rules))) in
    let once = dedup_same _ (λ x y. eq_by_cmp (slice_cmp nat_cmp) (entry_bytes x) (entry_bytes y)) _
    (λ x y b f x' y' called. search rules) _ _ c.dedup_by.ensures.filtered in
    listed_kept _ _ _ c.sort_unstable_by.ensures.permutation once c.requires by_bytes

pub returns : goal.returns
returns c =
    let once = dedup_same _ (λ x y. eq_by_cmp (slice_cmp nat_cmp) (entry_bytes x) (entry_bytes y)) _
    (λ x y b f x' y' called. search rules) _ _ c.dedup_by.ensures.filtered in
    set_kept _ _ _ c.sort_unstable_by.ensures.permutation once
