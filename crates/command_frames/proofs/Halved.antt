-- What is found by halving among those that stand in the order of their bytes.
use Rattle.std.proofs.Common.{◌≡◌, ℕ, ◌<◌, Bool, true, false, List, [], ◌∷◌, length, Result, Ok, Err, is_ok, sym, ap, ◌∙◌, inl, inr, arith}
use Rattle.std.specs.Cmp.{tied_itself}
use Rattle.std.specs.Cmp.Lexicographic.{slice_cmp, nat_list_cmp_total}
use Rattle.std.specs.List.{HoldsAt, list_any}
use Rattle.std.specs.List.Sorted.{IsBinarySearchResult, IsPartitionPoint, IsSearchInRange, IsSortedByKey}
use Rattle.std.specs.Ordering.{nat_cmp}
use Rattle.std.specs.Str.{bytes_eq}
use Rattle.std.specs.declared.cmp.Ordering.{Ordering}
use Rattle.std.specs.declared.cmp.Ordering.TheVariants.{Less, Equal, Greater}
use Rattle.std.proofs.lemmas.Bool.{cases_lt, false_from_ne_true}
use Rattle.std.proofs.lemmas.List.Folds.{Any-from_list_any, list_any_at}
use Rattle.std.proofs.lemmas.List.Sorted.{searchable_from_sorted}
use Rattle.std.proofs.lemmas.Slice.Eq.{bytes_eq-Decides}
use Rattle.archive_core.proofs.Made.{bytes_same}

module _ {X : Type 0} (bytes_of : X → List ℕ) (bytes : List ℕ) where
  abbrev pub place_of : X → Ordering
  place_of x = slice_cmp nat_cmp (bytes_of x) bytes

  abbrev has : X → Bool
  has x = bytes_eq (bytes_of x) bytes

  tied : (x : X) → has x ≡ true → place_of x ≡ Equal
  tied x is = ap (λ (b : List ℕ). slice_cmp nat_cmp b bytes) ((bytes_eq-Decides (bytes_of x) bytes).0 is) ∙ tied_itself nat_list_cmp_total bytes

  found_at : (xs : List X) (i : ℕ) → i < length xs → HoldsAt (λ (x : X). place_of x ≡ Equal) xs i → list_any has xs ≡ true
  found_at [] i lt at = absurd (omega (arith, lt))
  found_at (x ∷ xs) i lt at = list_any_at has (x ∷ xs) i x lt ((bytes_eq-Decides _ bytes).1 (bytes_same _ bytes (at x)))

  found_nowhere : (xs : List X) (i : ℕ) → IsPartitionPoint (λ (x : X). place_of x ≡ Less) (λ (x : X). place_of x ≡ Greater) xs i
      → list_any has xs ≡ false
  found_nowhere xs i parts = false_from_ne_true (list_any has xs) (λ is.
      let any = Any-from_list_any has xs is in
      elim (cases_lt any.0 i) [
        | inl below ↦ cc (tied any.1 any.4, any.3, parts.0 any.0 any.1 (omega arith) below)
        | inr above ↦ cc (tied any.1 any.4, any.3, parts.1 any.0 any.1 above any.2)
      ])

  pub found : (xs : List X) (r : Result ℕ ℕ) → IsSortedByKey bytes_of (slice_cmp nat_cmp) xs → IsSearchInRange r (length xs)
      → IsBinarySearchResult place_of xs r → is_ok r ≡ list_any has xs
  found xs (Ok i) sorted lt at = sym (found_at xs i lt at)
  found xs (Err i) sorted le parted = sym (found_nowhere xs i (parted (searchable_from_sorted nat_list_cmp_total bytes_of xs bytes sorted)))
