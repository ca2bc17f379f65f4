-- What a binary search finds in an ascending list.
use Rattle.std.proofs.Common.{◌≡◌, ℕ, ◌+◌, ◌-◌, ◌<◌, Bool, true, false, nat_lt, get_or, ◌||◌, List, [], ◌∷◌, length}
use Rattle.std.proofs.Common.{map, take, drop, refl, sym, ap, ◌∙◌, arith, Result, Ok, Err}
use Rattle.std.specs.declared.cmp.Ordering.{Ordering}
use Rattle.std.specs.declared.cmp.Ordering.TheVariants.{Less, Greater}
use Rattle.std.specs.Ordering.{eq_by_cmp, is_eq, is_le, is_lt, ordering_reverse, ordering_index}
use Rattle.std.specs.Cmp.{IsTotalOrder, tied_back}
use Rattle.std.specs.List.{AllByRecursion, list_any}
use Rattle.std.specs.List.Sorted.{IsStrictlySortedBy, IsBinarySearchResult, IsSearchInRange, IsSortedBy, IsNonDecreasingBy}
use Rattle.std.specs.FinSet.{contains-from_list}
use Rattle.std.proofs.lemmas.List.{take-append-drop, get_or-map, get_or_default}
use Rattle.std.proofs.lemmas.List.Folds.{list_any-append, list_any_at}
use Rattle.std.proofs.lemmas.List.Sorted.{searchable_from_sorted}
use Rattle.std.proofs.lemmas.Map.Keys.{Less-from_sorted}
use Rattle.join_core.specs.InnerSearch.{IsFound}
use Rattle.std.proofs.lemmas.Bool.Decides.{nat_tests}
use Rattle.std.proofs.Math.ListN.{get_or-map as get_or-map_at, length-map}
use Rattle.join_core.proofs.Place.{along, along_take, along_drop, ascending_insert}

-- the three tests of a comparison
pub eq_of_lt : (r : Ordering) → is_lt r ≡ true → is_eq r ≡ false
eq_of_lt r h = grind arith

pub eq_of_gt : (r : Ordering) → is_le r ≡ false → is_eq r ≡ false
eq_of_gt r h = grind arith

pub eq_of_both : (r : Ordering) → is_lt r ≡ false → is_le r ≡ true → is_eq r ≡ true
eq_of_both r h g = grind arith

-- no key passes a test that each fails
none : {K : Type 0} (p : K → Bool) (xs : List K) → AllByRecursion (λ x. p x ≡ false) xs → list_any p xs ≡ false
none p [] h = refl
none p (x ∷ xs) h = ap (λ b. b || list_any p xs) h.0 ∙ none p xs h.1

module _ {K : Type 0} {R : K → K → Ordering} (o : IsTotalOrder R) where
  turned : (x y : K) → R x y ≡ Less → R y x ≡ Greater
  turned x y h = o.antisymm y x ∙ ap ordering_reverse h

  sorted_by : (ks : List K) → IsStrictlySortedBy R ks → IsSortedBy (λ x y. is_lt (R x y)) ks
  sorted_by ks h i d _ lt = ap is_lt (turned _ _ (Less-from_sorted R ks i (i + 1) d h (omega arith) lt))

  -- a binary search by the order finds the key or its place
  pub searched : (ks : List K) (k : K) (r : Result ℕ ℕ) → IsStrictlySortedBy R ks → IsSearchInRange r (length ks)
      → IsBinarySearchResult (λ x. R x k) ks r → IsFound R ks k r
  searched ks k (Ok i) up lt at = record {
    present = contains-from_list o ks k ∙ list_any_at (eq_by_cmp R k) ks i k lt (ap is_eq (tied_back o _ k (at k)));
    absent = tt;
  }
  searched ks k (Err i) up le parted =
      let parts = parted (searchable_from_sorted o (λ x. x) ks k (sorted_by ks up)) in
      let before : AllByRecursion (λ x. R x k ≡ Less) (take i ks) = along_take (λ x. R x k ≡ Less) ks i (λ j d lt _. parts.0 j d (omega arith) lt) in
      let after : AllByRecursion (λ x. R k x ≡ Less) (drop i ks) =
      along_drop (λ x. R k x ≡ Less) ks i (λ j d ge lt. o.antisymm k _ ∙ ap ordering_reverse (parts.1 j d ge lt)) in
      record {
        present = tt;
        absent = record {
          ascending = ascending_insert R ks i k up before after;
          absent =
              contains-from_list o ks k
              ∙ ap (list_any (eq_by_cmp R k)) (sym (take-append-drop i ks))
              ∙ list_any-append (eq_by_cmp R k) (take i ks) (drop i ks)
              ∙ (λ t. none (eq_by_cmp R k) (take i ks) (along _ (λ x. eq_by_cmp R k x ≡ false) (λ x h. ap is_eq (turned x k h)) (take i ks) before) t
              || none (eq_by_cmp R k) (drop i ks) (along _ (λ x. eq_by_cmp R k x ≡ false) (λ x h. ap is_eq h) (drop i ks) after) t);
        };
      }

  module _ {X : Type 0} (f : X → K) (k : K) where
    rises : (xs : List X) → IsNonDecreasingBy (λ y. ordering_index (R y k)) (map f xs) → IsNonDecreasingBy (λ x. ordering_index (R (f x) k)) xs
    rises xs h i j d le lt = rw (← get_or-map_at f xs i d, ← get_or-map_at f xs j d) (h i j (f d) le (rw length-map lt))

    -- the same, by a key of each element
    pub searched_by : (xs : List X) (r : Result ℕ ℕ) → IsStrictlySortedBy R (map f xs) → IsSearchInRange r (length xs)
        → IsBinarySearchResult (λ x. R (f x) k) xs r → IsFound R (map f xs) k r
    searched_by [] (Ok i) up lt at = absurd (omega arith)
    searched_by [] (Err i) up le parted = searched [] k (Err i) up le (λ _. (λ j d a b. absurd (omega arith), λ j d a b. absurd (omega arith)))
    searched_by (x ∷ xs) (Ok i) up lt at = searched (map f (x ∷ xs)) k (Ok i) up (rw length-map lt) (λ d. rw (get_or-map f (x ∷ xs) i x d lt) (at x))
    searched_by (x ∷ xs) (Err i) up le parted =
        searched (map f (x ∷ xs)) k (Err i) up (rw length-map le) (λ rise.
        let parts = parted (rises (x ∷ xs) rise) in (
          λ j d a b. rw (get_or-map f (x ∷ xs) j x d (omega arith)) (parts.0 j x a b),
          λ j d a b. let lt : j < length (x ∷ xs) = rw length-map at b in rw (get_or-map f (x ∷ xs) j x d lt) (parts.1 j x a lt),
        ))

  -- above the last key, a key goes to the end
  pub searched_last : (ks : List K) (k : K) (d : K) → IsStrictlySortedBy R ks → 0 < length ks
      → R (get_or ks (length ks - 1) d) k ≡ Less → IsFound R ks k (Err (length ks))
  searched_last ks k d up some above =
      searched ks k (Err (length ks)) up (omega arith) (λ _. (
        λ j e ge lt. below_last j e lt,
        λ j e ge lt. absurd (omega arith),
      ))
    where
      last_is : (e : K) → get_or ks (length ks - 1) e ≡ get_or ks (length ks - 1) d
      last_is e = get_or_default ks (length ks - 1) e d (omega arith)

      below_last : (j : ℕ) (e : K) → j < length ks → R (get_or ks j e) k ≡ Less
      below_last j e lt = elim (nat_lt j (length ks - 1)) as (λ b. nat_lt j (length ks - 1) ≡ b → R (get_or ks j e) k ≡ Less) [
        | true ↦ λ t. o.trans _ _ _ (Less-from_sorted R ks j (length ks - 1) e up (grind (arith, nat_tests)) (omega arith)) (rw (last_is e) above)
        | false ↦ λ f. let at : j ≡ length ks - 1 = grind (arith, nat_tests) in rw (at, last_is e) above
      ] refl
