-- Lists of all of which something is true, with keys of their widths: what is kept of others, put in order, each once.
use Rattle.std.proofs.Common.{◌≡◌, ◌↔◌, ◌⊎◌, ℕ, ◌+◌, ◌<◌, ◌≤◌, true, List, [], ◌∷◌, ◌++◌, length, take, get_or, Result}
use Rattle.std.proofs.Common.{Ok, Err, refl, sym, ap, ◌∙◌, subst, arith, inl, inr, length-take}
use Rattle.std.specs.Cmp.{IsTotalOrder}
use Rattle.std.specs.List.{Contains, dedup}
use Rattle.std.specs.List.Sorted.{IsBinarySearchResult, IsPartitionPoint, IsPermutation, IsSearchInRange, IsSorted, IsSortedBy, IsStrictlySortedBy}
use Rattle.std.specs.Ordering.{eq_by_cmp, is_eq, is_lt, ordering_reverse}
use Rattle.std.specs.Result.{is_ok}
use Rattle.std.specs.declared.cmp.Ordering.{Ordering}
use Rattle.std.specs.declared.cmp.Ordering.TheVariants.{Less, Equal, Greater}
use Rattle.std.proofs.lemmas.Bool.{cases_lt}
use Rattle.std.proofs.lemmas.Cmp.{eq_by_cmp_equiv}
use Rattle.std.proofs.lemmas.List.{take_more, take_all}
use Rattle.std.proofs.lemmas.List.Elements.{All-contains, All-nil, All-push, Contains-append_left, Contains-get_or, Contains-push, Contains-push_cases}
use Rattle.std.proofs.lemmas.List.Kept.{Any-dedup, Contains-from_dedup, IsStrictlySortedBy-dedup}
use Rattle.std.proofs.lemmas.List.Sorted.{All-permutation, Contains-permutation, IsPermutation-sym, searchable_from_sorted}
use Rattle.std.proofs.lemmas.Map.Keys.{Less-from_sorted}
use Rattle.archive_core.specs.Key.{IsKey}
use Rattle.archive_core.specs.declared.keys.SliceKey.{SliceKey}
use Rattle.text_reports.specs.InnerSlices.{AreExactly}

-- ---- found by halving

module _ {K : Type 0} {R : K → K → Ordering} (o : IsTotalOrder R) {X : Type 0} (key : X → K) where
  -- what ascends strictly is sorted
  pub neighbours : (xs : List X) → IsStrictlySortedBy (λ a b. R (key a) (key b)) xs → IsSortedBy (λ a b. is_lt (R (key a) (key b))) xs
  neighbours xs up k d _ lt =
      ap is_lt (o.antisymm (key (get_or xs (k + 1) d)) (key (get_or xs k d)) ∙ ap ordering_reverse
      (Less-from_sorted (λ a b. R (key a) (key b)) xs k (k + 1) d up (omega arith) lt))

module _ {K : Type 0} {R : K → K → Ordering} (o : IsTotalOrder R) {X : Type 0} (key : X → K) (sought : K) where
  abbrev pub place_of : X → Ordering
  place_of x = R (key x) sought

  nowhere : (xs : List X) (i : ℕ) → IsPartitionPoint (λ x. place_of x ≡ Less) (λ x. place_of x ≡ Greater) xs i → (x : X)
      → Contains xs x → place_of x ≡ Equal → ⊥
  nowhere xs i parts x there same =
      elim (cases_lt there.0 i) [
        | inl below ↦ cc (same, there.2, parts.0 there.0 x (omega arith) below)
        | inr above ↦ cc (same, there.2, parts.1 there.0 x above there.1)
      ]

  -- a binary search finds a place exactly if there is one
  pub halved : (xs : List X) (r : Result ℕ ℕ) → IsSortedBy (λ a b. is_lt (R (key a) (key b))) xs
      → IsSearchInRange r (length xs) → IsBinarySearchResult place_of xs r
      → (is_ok r ≡ true) ↔ ((x : X) × Contains xs x × (place_of x ≡ Equal))
  halved [] (Ok i) sorted lt at = absurd (omega (arith, lt))
  halved (x ∷ xs) (Ok i) sorted lt at = (λ _. (get_or (x ∷ xs) i x, Contains-get_or (x ∷ xs) i x lt, at x), λ _. refl)
  halved xs (Err i) sorted le parted = (
    λ e. absurd (cc e),
    λ there. absurd (nowhere xs i (parted (searchable_from_sorted o key xs sought sorted)) there.0 there.1 there.2),
  )

-- ---- kept one after another

module _ {X : Type 0} (key_of : X → SliceKey) (IsOne : X → Type 0) where
  -- those of the first ones
  abbrev pub AreOfFirst : List X → ℕ → List X → Type 0
  AreOfFirst xs i kept = AreExactly key_of (λ x. Contains (take i xs) x × IsOne x) kept

  pub kept_none : (xs : List X) → AreOfFirst xs 0 []
  kept_none xs = record {
    exactly = λ x. (λ there. absurd (omega (arith, there.1)), λ there. absurd (omega (arith, there.0.1, length-take 0 xs)));
    are_keyed = All-nil (λ x. IsKey (key_of x));
  }

  module _ (xs kept : List X) (i : ℕ) (x : X) (within : i < length xs) (is : x ≡ get_or xs i x) (are : AreOfFirst xs i kept) where
    one_more : take (i + 1) xs ≡ take i xs ++ x ∷ []
    one_more = take_more xs i x within ∙ ap (λ (y : X). take i xs ++ y ∷ []) (sym is)

    was : (y : X) → Contains (take (i + 1) xs) y → Contains (take i xs) y ⊎ (x ≡ y)
    was y there = Contains-push_cases (take i xs) x y (subst (λ (l : List X). Contains l y) one_more there)

    still : (y : X) → Contains (take i xs) y → Contains (take (i + 1) xs) y
    still y there = subst (λ (l : List X). Contains l y) (sym one_more) (Contains-append_left (take i xs) (x ∷ []) y there)

    last : Contains (take (i + 1) xs) x
    last = subst (λ (l : List X). Contains l x) (sym one_more) (Contains-push (take i xs) x)

    pub kept_more : IsKey (key_of x) → IsOne x → AreOfFirst xs (i + 1) (kept ++ x ∷ [])
    kept_more key one = record {
      exactly = λ y. (
        λ there. elim (Contains-push_cases kept x y there) [
          | inl before ↦ let of = (are.exactly y).0 before in (still y of.0, of.1)
          | inr same ↦ (subst (Contains (take (i + 1) xs)) same last, subst IsOne same one)
        ],
        λ there. elim (was y there.0) [
          | inl before ↦ Contains-append_left kept (x ∷ []) y ((are.exactly y).1 (before, there.1))
          | inr same ↦ subst (Contains (kept ++ x ∷ [])) same (Contains-push kept x)
        ],
      );
      are_keyed = All-push (λ y. IsKey (key_of y)) kept x are.are_keyed key;
    }

    pub kept_same : (IsOne x → ⊥) → AreOfFirst xs (i + 1) kept
    kept_same none = record {
      exactly = λ y. (
        λ there. let of = (are.exactly y).0 there in (still y of.0, of.1),
        λ there. elim (was y there.0) [
          | inl before ↦ (are.exactly y).1 (before, there.1)
          | inr same ↦ absurd (none (subst IsOne (sym same) there.1))
        ],
      );
      are_keyed = are.are_keyed;
    }

  pub kept_all : (xs kept : List X) (i : ℕ) → length xs ≤ i → AreOfFirst xs i kept → AreExactly key_of (λ x. Contains xs x × IsOne x) kept
  kept_all xs kept i all are = subst (λ (l : List X). AreExactly key_of (λ x. Contains l x × IsOne x) kept) (take_all i xs all) are

-- ---- put in order, each once

module _ {X : Type 0} (key_of : X → SliceKey) (IsOne : X → Type 0) where
  pub exactly_moved : (xs sorted : List X) → IsPermutation xs sorted → AreExactly key_of IsOne xs → AreExactly key_of IsOne sorted
  exactly_moved xs sorted moved are = record {
    exactly = λ x. (
      λ there. (are.exactly x).0 (Contains-permutation sorted xs x (IsPermutation-sym xs sorted moved) there),
      λ one. Contains-permutation xs sorted x moved ((are.exactly x).1 one),
    );
    are_keyed = All-permutation (λ x. IsKey (key_of x)) xs sorted moved are.are_keyed;
  }

  pub exactly_same : (IsOther : X → Type 0) → ((x : X) → IsOne x ↔ IsOther x) → (xs : List X) → AreExactly key_of IsOne xs → AreExactly key_of IsOther xs
  exactly_same IsOther same xs are = record {
    exactly = λ x. (λ there. (same x).0 ((are.exactly x).0 there), λ other. (are.exactly x).1 ((same x).1 other));
    are_keyed = are.are_keyed;
  }

  eq_true : (o : Ordering) → is_eq o ≡ true → o ≡ Equal
  eq_true Equal e = refl
  eq_true o e = absurd (cc e)

  module _ {R : X → X → Ordering} (o : IsTotalOrder R) (sorted kept : List X) (once : kept ≡ dedup (eq_by_cmp R) sorted) where
    of_kept : (x : X) → Contains kept x → Contains sorted x
    of_kept x there = Contains-from_dedup (eq_by_cmp R) sorted x (subst (λ (l : List X). Contains l x) once there)

    pub exactly_once : ((x y : X) → IsOne x → IsOne y → IsKey (key_of x) → IsKey (key_of y) → R x y ≡ Equal → x ≡ y)
        → AreExactly key_of IsOne sorted → AreExactly key_of IsOne kept
    exactly_once one are = record {
      exactly = λ x. (
        λ there. (are.exactly x).0 (of_kept x there),
        λ is.
            let there = (are.exactly x).1 is in
            let any = Any-dedup (eq_by_cmp_equiv o) sorted x there in
            let other : Contains kept any.1 = subst (λ (l : List X). Contains l any.1) (sym once) (any.0, any.2, any.3) in
            let other_is = (are.exactly any.1).0 (of_kept any.1 other) in
            let keyed = λ (y : X) (h : Contains sorted y). All-contains (λ z. IsKey (key_of z)) sorted y are.are_keyed h in
            subst (Contains kept) (sym (one x any.1 is other_is (keyed x there) (keyed any.1 (of_kept any.1 other)) (eq_true _ any.4))) other,
      );
      are_keyed = λ k d within. All-contains (λ x. IsKey (key_of x)) sorted (get_or kept k d) are.are_keyed
          (of_kept (get_or kept k d) (Contains-get_or kept k d within));
    }

    pub once_ascends : IsSorted R sorted → IsStrictlySortedBy R kept
    once_ascends up = subst (IsStrictlySortedBy R) (sym once) (IsStrictlySortedBy-dedup o (λ x y. refl) sorted up)
