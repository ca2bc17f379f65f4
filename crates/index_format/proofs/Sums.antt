-- The lengths of the records that the index of a content names are those of its text.
use Rattle.std.proofs.Common.{◌≡◌, ℕ, ◌+◌, ◌<◌, ◌^◌, Bool, true, false, ◌||◌, List, [], ◌∷◌, ◌++◌, length, refl, sym, ap, ◌∙◌, inl, inr, arith, length-append}
use Rattle.std.specs.List.{sum_by, concat, list_any}
use Rattle.std.specs.Ordering.{eq_by_cmp, is_eq, match_ordering}
use Rattle.std.specs.declared.cmp.Ordering.TheVariants.{Less, Equal, Greater}
use Rattle.std.specs.Cmp.{alike_right}
use Rattle.std.specs.Cmp.Lexicographic.{nat_list_cmp_total}
use Rattle.std.specs.FinSet as set
use Rattle.std.specs.FinSet.{contains-from_list, same_set}
use Rattle.std.proofs.Math.Bool.{or_self_left}
use Rattle.std.proofs.lemmas.List.Sums.{sum_by-cons}
use Rattle.join_core.specs.Listing.{listing, put, ascending_of}
use Rattle.join_core.proofs.Listing.{ascending_ascending_of, one_listing}
use Rattle.archive_core.specs.Record.{IsRecord}
use Rattle.archive_core.specs.Content.{Operations, IsContent}
use Rattle.archive_core.proofs.Taken.{tied_is}
use Rattle.archive_core.proofs.Made.{bytes_same}
use Rattle.archive_records.specs.declared.format.Format.TheVariants.{Archive}
use Rattle.archive_records.specs.Text.{InOrder, written, end_record}
use Rattle.archive_records.specs.Kind.{magic}
use Rattle.archive_records.proofs.Ends.{length-end_record}
use Rattle.archive_records.proofs.Contents.{order, InOrder-listing}
use Rattle.index_format.specs.Entry.{placed_entry, length_in, offset_in}
use Rattle.index_format.specs.Index.{index, placed_entries, lengths_of}
use Rattle.index_format.proofs.Placed.{length_is, offset_is}

abbrev pub is_same : List ℕ → List ℕ → Bool
is_same = eq_by_cmp order

any_put : (q k : List ℕ) (xs : List (List ℕ)) → list_any (is_same q) (put order k xs) ≡ (is_same q k || list_any (is_same q) xs)
any_put q k [] = refl
any_put q k (x ∷ xs) = elim (order k x) as (λ r. order k x ≡ r
    → list_any (is_same q) (match_ordering r (k ∷ x ∷ xs) (x ∷ xs) (x ∷ put order k xs))
    ≡ (is_same q k || (is_same q x || list_any (is_same q) xs))) [
      | Less ↦ λ _. refl
      | Equal ↦ λ e. cc (alike_right nat_list_cmp_total k x q e, or_self_left (is_same q x) (list_any (is_same q) xs))
      | Greater ↦ λ _. grind (arith, any_put q k xs)
    ] refl

pub any_ascending_of : (q : List ℕ) (ks : List (List ℕ)) → list_any (is_same q) (ascending_of order ks) ≡ list_any (is_same q) ks
any_ascending_of q [] = refl
any_ascending_of q (k ∷ ks) = any_put q k (ascending_of order ks) ∙ ap (λ b. is_same q k || b) (any_ascending_of q ks)

pub listing_of : (xs : List (List ℕ)) → listing (set.from_list {R = order} xs) ≡ ascending_of order xs
listing_of xs = one_listing nat_list_cmp_total bytes_same (set.from_list xs) (ascending_of order xs) (record {
  ascending = ascending_ascending_of nat_list_cmp_total xs;
  same = same_set nat_list_cmp_total bytes_same (set.from_list xs) (set.from_list (ascending_of order xs)) (λ q.
      contains-from_list nat_list_cmp_total xs q ∙ sym (any_ascending_of q xs) ∙ sym (contains-from_list nat_list_cmp_total (ascending_of order xs) q));
})

-- a key that is not there is added
sum_put : (f : List ℕ → ℕ) (k : List ℕ) (xs : List (List ℕ)) → list_any (is_same k) xs ≡ false → sum_by f (put order k xs) ≡ f k + sum_by f xs
sum_put f k [] none = sum_by-cons f k []
sum_put f k (x ∷ xs) none = elim (order k x) as (λ r. order k x ≡ r
    → sum_by f (match_ordering r (k ∷ x ∷ xs) (x ∷ xs) (x ∷ put order k xs)) ≡ f k + sum_by f (x ∷ xs)) [
      | Less ↦ λ _. sum_by-cons f k (x ∷ xs)
      | Equal ↦ λ e. cc
      | Greater ↦ λ e.
          let rest : sum_by f (put order k xs) ≡ f k + sum_by f xs = sum_put f k xs (sym (ap (λ r. is_eq r || list_any (is_same k) xs) e) ∙ none) in
          omega (arith, sum_by-cons f x (put order k xs), sum_by-cons f x xs, rest)
    ] refl

-- keys of which none comes twice
abbrev pub AreApart : List (List ℕ) → Type 0
AreApart [] = Unit {0}
AreApart (x ∷ xs) = (list_any (is_same x) xs ≡ false) × AreApart xs

sum_ascending : (f : List ℕ → ℕ) (xs : List (List ℕ)) → AreApart xs → sum_by f (ascending_of order xs) ≡ sum_by f xs
sum_ascending f [] a = refl
sum_ascending f (x ∷ xs) a =
    sum_put f x (ascending_of order xs) (any_ascending_of x xs ∙ a.0) ∙ ap (λ n. f x + n) (sum_ascending f xs a.1) ∙ sym (sum_by-cons f x xs)

-- ---- entries of records at places

pub nonempty : (r : List ℕ) → IsRecord r → 0 < length r
nonempty [] (inl a) = cc (a.is)
nonempty [] (inr b) = cc (b.is)
nonempty (x ∷ r) is = omega arith

-- those after a place are of other places
others : (low : List ℕ) (k j : ℕ) (r : List ℕ) (rs : List (List ℕ)) → IsRecord r → InOrder Archive low rs → k < j
    → j + length (concat rs) < 2 ^ 64 → list_any (is_same (placed_entry k r)) (placed_entries j rs) ≡ false
others low k j r [] is a lt fits = refl
others low k j r (x ∷ rs) is a lt fits =
    elim (is_same (placed_entry k r) (placed_entry j x)) as
    (λ b. is_same (placed_entry k r) (placed_entry j x) ≡ b
    → (b || list_any (is_same (placed_entry k r)) (placed_entries (j + length x) rs)) ≡ false) [
      | true ↦ λ e.
          absurd (omega (
            arith,
            offset_is k r is (omega (arith, length-append x (concat rs))),
            offset_is j x a.0 (omega (arith, length-append x (concat rs))),
            ap offset_in (tied_is (placed_entry k r) (placed_entry j x) e),
          ))
      | false ↦ λ _. others x k (j + length x) r rs is a.2 (omega arith) (omega (arith, length-append x (concat rs)))
    ] refl

entries_apart : (low : List ℕ) (k : ℕ) (rs : List (List ℕ)) → InOrder Archive low rs → k + length (concat rs) < 2 ^ 64 → AreApart (placed_entries k rs)
entries_apart low k [] a fits = tt
entries_apart low k (r ∷ rs) a fits = (
  others r k (k + length r) r rs a.0 a.2 (omega (arith, nonempty r a.0))
      (omega (arith, length-append r (concat rs))),
  entries_apart r (k + length r) rs a.2
      (omega (arith, length-append r (concat rs))),
)

sum_of_entries : (low : List ℕ) (k : ℕ) (rs : List (List ℕ)) → InOrder Archive low rs → sum_by length_in (placed_entries k rs) ≡ length (concat rs)
sum_of_entries low k [] a = refl
sum_of_entries low k (r ∷ rs) a =
    sum_by-cons length_in (placed_entry k r) (placed_entries (k + length r) rs)
    ∙ (λ i. length_is k r a.0 i + sum_of_entries r (k + length r) rs a.2 i) ∙ sym (length-append r (concat rs))

pub text_length : (o : Operations) → length (written o) ≡ 17 + length (concat (listing o))
unfolding written
text_length o =
    omega (
      arith,
      length-append magic (concat (listing o) ++ end_record (set.len o)),
      length-append (concat (listing o)) (end_record (set.len o)),
      length-end_record (set.len o),
    )

-- so they are together
pub right_length : (o : Operations) → IsContent o → length (written o) < 2 ^ 64 → length (written o) ≡ 17 + lengths_of (index o)
unfolding lengths_of index
right_length o content fits =
    let rs = listing o in
    let ordered : InOrder Archive [] rs = InOrder-listing o content in
    let apart = entries_apart [] 8 rs ordered (omega (arith, text_length o, fits)) in
    text_length o ∙ ap (λ n. 17 + n) (sym (ap (sum_by length_in) (listing_of (placed_entries 8 rs))
    ∙ sum_ascending length_in (placed_entries 8 rs) apart ∙ sum_of_entries [] 8 rs ordered))
