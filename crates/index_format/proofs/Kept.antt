-- Entries that are sorted, and kept once each.
use Rattle.std.proofs.Common.{◌≡◌, ◌↔◌, ℕ, Bool, true, List, map, ap, ◌∙◌}
use Rattle.std.specs.Ordering.{eq_by_cmp}
use Rattle.std.specs.Cmp.Lexicographic.{nat_list_cmp_total}
use Rattle.std.specs.List.{AllByRecursion, Contains, dedup}
use Rattle.std.specs.List.Sorted.{IsPermutation}
use Rattle.std.specs.FinSet as set
use Rattle.std.proofs.lemmas.Cmp.{eq_by_cmp_equiv}
use Rattle.std.proofs.lemmas.List.Elements.{All-from_recursion, All-contains}
use Rattle.std.proofs.lemmas.List.Kept.{Contains-dedup, Contains-from_dedup}
use Rattle.std.proofs.lemmas.List.Sorted.{IsPermutation-map}
use Rattle.join_core.proofs.Members.{from_list_same}
use Rattle.join_core.proofs.SortedUnion.{map_dedup, from_list_permuted}
use Rattle.archive_core.proofs.Members.{in_listing, in_order}
use Rattle.archive_core.proofs.Taken.{tied_is}
use Rattle.archive_core.proofs.Made.{bytes_same}
use Rattle.archive_records.proofs.Contents.{order}
use Rattle.index_format.specs.Entry.{IsPlacedEntry}
use Rattle.index_format.specs.Index.{AreIndexEntries}

-- what is in the set of a list is what is in the list
pub in_made : (xs : List (List ℕ)) (q : List ℕ) → Contains xs q ↔ (set.contains (set.from_list {R = order} xs) q ≡ true)
in_made xs q = (
  λ h. (in_listing nat_list_cmp_total bytes_same (set.from_list xs) q).0 ((in_order nat_list_cmp_total bytes_same xs q).1 h),
  λ h. (in_order nat_list_cmp_total bytes_same xs q).0 ((in_listing nat_list_cmp_total bytes_same (set.from_list xs) q).1 h),
)

-- what is among entries is one
pub are_listed : (xs : List (List ℕ)) → AllByRecursion IsPlacedEntry xs → AreIndexEntries (set.from_list xs)
are_listed xs all q h = All-contains IsPlacedEntry xs q (All-from_recursion IsPlacedEntry xs all) ((in_made xs q).1 h)

module _ {E : Type 0} (bytes_of : E → List ℕ) where
  abbrev tie : E → E → Bool
  tie x y = eq_by_cmp order (bytes_of x) (bytes_of y)

  -- what sorting and dropping repeats leaves
  module _ (gathered moved kept : List E) (permuted : IsPermutation gathered moved) (once : kept ≡ dedup tie moved) where
    pub set_kept : set.from_list {R = order} (map bytes_of kept) ≡ set.from_list (map bytes_of gathered)
    set_kept =
        let bytes = map bytes_of moved in
        ap (λ (xs : List E). set.from_list (map bytes_of xs)) once
        ∙ ap set.from_list (map_dedup bytes_of (eq_by_cmp order) moved)
        ∙ from_list_same nat_list_cmp_total bytes_same (dedup (eq_by_cmp order) bytes) bytes
        (λ q. (
          Contains-from_dedup (eq_by_cmp order) bytes q,
          Contains-dedup (eq_by_cmp_equiv nat_list_cmp_total) tied_is bytes q,
        ))
        ∙ from_list_permuted nat_list_cmp_total bytes_same (map bytes_of gathered) bytes (IsPermutation-map bytes_of gathered moved permuted)
