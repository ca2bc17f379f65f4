-- Lists that ascend strictly by a number: two with the same members are one.
use Rattle.std.proofs.Common.{◌≡◌, ℕ, ◌+◌, ◌<◌, ◌≤◌, suc, Bool, true, false, cond, eqb, ◌||◌, ◌&&◌, List, [], ◌∷◌}
use Rattle.std.proofs.Common.{get_or, refl, sym, ap, ◌∙◌, subst, inl, inr, ◌⊎◌, arith}
use Rattle.std.specs.Prelude.{filter}
use Rattle.std.specs.List.{AllByRecursion, list_any, sum_by}
use Rattle.std.specs.Ordering.{nat_cmp, eq_by_cmp, is_eq, is_lt}
use Rattle.std.proofs.lemmas.Cmp.{nat_cmp_total}
use Rattle.std.proofs.lemmas.Map.Keys.{ge_from_not_lt}
use Rattle.std.specs.declared.cmp.Ordering.TheVariants.{Less}
use Rattle.std.specs.Cmp.{Equal-is, both_ways, tied_itself, IsStrictWeakOrder}
use Rattle.std.specs.Cmp.Lexicographic.{nat_list_cmp_total}
use Rattle.std.specs.List.Sorted.{IsSortedBy, IsStrictlySortedBy, IsPermutation}
use Rattle.std.proofs.lemmas.Bool.{eqb-true, eqb-false}
use Rattle.std.proofs.lemmas.List.Sums.{sum_by-cons}
use Rattle.std.proofs.lemmas.List.Sorted.{sum_by-IsPermutation, sorted_far, ranks_by}
use Rattle.std.proofs.lemmas.List.Elements.{recursion_from_All}
use Rattle.archive_core.proofs.Made.{bytes_same, or_left, or_right}
use Rattle.archive_records.proofs.Contents.{order}

abbrev pub is_same : List ℕ → List ℕ → Bool
is_same = eq_by_cmp order

same_is : (r s : List ℕ) → is_same r s ≡ true → r ≡ s
same_is r s h = bytes_same r s ((Equal-is (order r s)).0 h)

itself : (x : List ℕ) → is_same x x ≡ true
itself x = ap is_eq (tied_itself nat_list_cmp_total x)

no_truth : false ≡ true → ⊥
no_truth e = cc

-- a member is the first, or one of the others
first_or : (q x : List ℕ) (xs : List (List ℕ)) → list_any (is_same q) (x ∷ xs) ≡ true → (q ≡ x) ⊎ (list_any (is_same q) xs ≡ true)
first_or q x xs h = by (is_same q x) refl h
  where
    by : (b : Bool) → is_same q x ≡ b → (b || list_any (is_same q) xs) ≡ true → (q ≡ x) ⊎ (list_any (is_same q) xs ≡ true)
    by true e t = inl (same_is q x e)
    by false e t = inr t

here : (x : List ℕ) (xs : List (List ℕ)) → list_any (is_same x) (x ∷ xs) ≡ true
here x xs = or_left _ _ (itself x)

later : (q x : List ℕ) (xs : List (List ℕ)) → list_any (is_same q) xs ≡ true → list_any (is_same q) (x ∷ xs) ≡ true
later q x xs h = or_right (is_same q x) _ h

and_false : (a b : Bool) → b ≡ false → (a && b) ≡ false
and_false a b h = grind arith

-- the members that pass
pub any_passed : (p : List ℕ → Bool) (q : List ℕ) (xs : List (List ℕ)) → list_any (is_same q) (filter p xs) ≡ (list_any (is_same q) xs && p q)
any_passed p q [] = refl
any_passed p q (x ∷ xs) = by (p x) (is_same q x) refl refl (any_passed p q xs)
  where
    by : (b c : Bool) → p x ≡ b → is_same q x ≡ c → list_any (is_same q) (filter p xs) ≡ (list_any (is_same q) xs && p q)
        → list_any (is_same q) (cond b (x ∷ filter p xs) (filter p xs)) ≡ ((c || list_any (is_same q) xs) && p q)
    by true true e f rest = ap (λ (a : Bool). a || list_any (is_same q) (filter p xs)) f ∙ sym (ap p (same_is q x f) ∙ e)
    by true false e f rest = ap (λ (a : Bool). a || list_any (is_same q) (filter p xs)) f ∙ rest
    by false true e f rest = rest ∙ and_false (list_any (is_same q) xs) (p q) (ap p (same_is q x f) ∙ e) ∙ sym (ap p (same_is q x f) ∙ e)
    by false false e f rest = rest

module _ (n : List ℕ → ℕ) where
  -- strictly ascending by the number
  abbrev pub Ascend : List (List ℕ) → Type 0
  Ascend [] = Unit {0}
  Ascend (x ∷ xs) = AllByRecursion (λ y. n x < n y) xs × Ascend xs

  above : (x : ℕ) (xs : List (List ℕ)) (q : List ℕ) → AllByRecursion (λ y. x < n y) xs → list_any (is_same q) xs ≡ true → x < n q
  above x [] q all h = absurd (no_truth h)
  above x (y ∷ ys) q all h = elim (first_or q y ys h) [
    | inl e ↦ subst (λ (z : List ℕ). x < n z) (sym e) all.0
    | inr more ↦ above x ys q all.1 more
  ]

  -- of members the number tells which
  pub one_of_number : (xs : List (List ℕ)) (p q : List ℕ) → Ascend xs → list_any (is_same p) xs ≡ true → list_any (is_same q) xs ≡ true → n p ≡ n q → p ≡ q
  one_of_number [] p q up in_p in_q same = absurd (no_truth in_p)
  one_of_number (x ∷ xs) p q up in_p in_q same = elim (first_or p x xs in_p) [
    | inl a ↦ elim (first_or q x xs in_q) [
      | inl b ↦ a ∙ sym b
      | inr more ↦ absurd (omega (arith, above (n x) xs q up.0 more, ap n a, same))
    ]
    | inr rest ↦ elim (first_or q x xs in_q) [
      | inl b ↦ absurd (omega (arith, above (n x) xs p up.0 rest, ap n b, same))
      | inr more ↦ one_of_number xs p q up.1 rest more same
    ]
  ]

  pub one_ascent : (xs ys : List (List ℕ)) → Ascend xs → Ascend ys → ((q : List ℕ) → list_any (is_same q) xs ≡ list_any (is_same q) ys) → xs ≡ ys
  one_ascent [] [] up up' same = refl
  one_ascent [] (y ∷ ys) up up' same = absurd (no_truth (same y ∙ here y ys))
  one_ascent (x ∷ xs) [] up up' same = absurd (no_truth (sym (same x) ∙ here x xs))
  one_ascent (x ∷ xs) (y ∷ ys) up up' same =
      let first : x ≡ y = elim (first_or x y ys (sym (same x) ∙ here x xs)) [
        | inl e ↦ e
        | inr a ↦ elim (first_or y x xs (same y ∙ here y ys)) [
          | inl e ↦ sym e
          | inr b ↦ absurd (omega (arith, above (n y) ys x up'.0 a, above (n x) xs y up.0 b))
        ]
      ] in
      let rest : xs ≡ ys = one_ascent xs ys up.1 up'.1 (λ q. both_ways (list_any (is_same q) xs) (list_any (is_same q) ys)
      (λ h. elim (first_or q y ys (sym (same q) ∙ later q x xs h)) [
        | inl e ↦ absurd (omega (arith, above (n x) xs q up.0 h, ap n e, ap n first))
        | inr more ↦ more
      ])
      (λ h. elim (first_or q x xs (same q ∙ later q y ys h)) [
        | inl e ↦ absurd (omega (arith, above (n y) ys q up'.0 h, ap n e, ap n first))
        | inr more ↦ more
      ])) in
      λ i. first i ∷ rest i

  -- ---- how many have a number

  abbrev pub bit : Bool → ℕ
  bit b = cond b 1 0

  abbrev pub count : ℕ → List (List ℕ) → ℕ
  count t xs = sum_by (λ x. bit (eqb (n x) t)) xs

  count_cons : (t : ℕ) (x : List ℕ) (xs : List (List ℕ)) → count t (x ∷ xs) ≡ bit (eqb (n x) t) + count t xs
  count_cons t x xs = sum_by-cons (λ x. bit (eqb (n x) t)) x xs

  one_here : (t : ℕ) (x : List ℕ) → n x ≡ t → bit (eqb (n x) t) ≡ 1
  one_here t x e = grind arith

  none_here : (t : ℕ) (x : List ℕ) → (n x ≡ t → ⊥) → bit (eqb (n x) t) ≡ 0
  none_here t x other = grind arith

  -- none of them, where each is above
  count_none : (t : ℕ) (xs : List (List ℕ)) → AllByRecursion (λ y. n y ≡ t → ⊥) xs → count t xs ≡ 0
  count_none t [] all = refl
  count_none t (x ∷ xs) all = count_cons t x xs ∙ omega (arith, none_here t x all.0, count_none t xs all.1)

  less_not_equal : (x y : List ℕ) → x ≡ y → order x y ≡ Less → ⊥
  less_not_equal x y e l = cc (ap (order x) e, l, tied_itself nat_list_cmp_total x)

  -- bytes that ascend strictly, of which the number tells which
  others : (x : List ℕ) (ys : List (List ℕ)) → AllByRecursion (λ y. order x y ≡ Less) ys
      → ((y : List ℕ) → list_any (is_same y) ys ≡ true → n x ≡ n y → x ≡ y) → AllByRecursion (λ y. n y ≡ n x → ⊥) ys
  others x [] low tells = tt
  others x (y ∷ ys) low tells = (
    λ same. less_not_equal x y (tells y (here y ys) (sym same)) low.0,
    others x ys low.1 (λ q h. tells q (later q y ys h)),
  )

  pub once : (xs : List (List ℕ)) → IsStrictlySortedBy order xs
      → ((p q : List ℕ) → list_any (is_same p) xs ≡ true → list_any (is_same q) xs ≡ true → n p ≡ n q → p ≡ q) → (t : ℕ)
      → count t xs ≤ 1
  unfolding IsStrictlySortedBy
  once [] up tells t = omega arith
  once (x ∷ xs) up tells t =
      let rest : count t xs ≤ 1 = once xs up.1 (λ p q a b. tells p q (later p x xs a) (later q x xs b)) t in
      by (eqb (n x) t) refl rest
    where
      by : (b : Bool) → eqb (n x) t ≡ b → count t xs ≤ 1 → count t (x ∷ xs) ≤ 1
      by true h rest =
          let e : n x ≡ t = eqb-true (n x) t h in
          let none : count t xs ≡ 0 = count_none t xs (subst (λ (k : ℕ). AllByRecursion (λ y. n y ≡ k → ⊥) xs) e
          (others x xs up.0 (λ y m. tells x y (here x xs) (later y x xs m)))) in
          omega (arith, count_cons t x xs, one_here t x e, none)
      by false h rest = omega (arith, count_cons t x xs, none_here t x (eqb-false (n x) t h), rest)

  -- not descending, and none twice
  abbrev NotBelow : List (List ℕ) → Type 0
  NotBelow [] = Unit {0}
  NotBelow (x ∷ xs) = AllByRecursion (λ y. n x ≤ n y) xs × NotBelow xs

  strictly : (xs : List (List ℕ)) → NotBelow xs → ((t : ℕ) → count t xs ≤ 1) → Ascend xs
  strictly [] up most = tt
  strictly (x ∷ xs) up most = (
    over xs up.0 (omega (arith, most (n x), count_cons (n x) x xs, one_here (n x) x refl)),
    strictly xs up.1 (λ t. omega (arith, most t, count_cons t x xs)),
  )
    where
      over : (ys : List (List ℕ)) → AllByRecursion (λ y. n x ≤ n y) ys → count (n x) ys ≡ 0 → AllByRecursion (λ y. n x < n y) ys
      over [] low none = tt
      over (y ∷ ys) low none = (by (eqb (n y) (n x)) refl, over ys low.1 (omega (arith, none, count_cons (n x) y ys)))
        where
          by : (b : Bool) → eqb (n y) (n x) ≡ b → n x < n y
          by true h = absurd (omega (arith, none, count_cons (n x) y ys, one_here (n x) y (eqb-true (n y) (n x) h)))
          by false h =
              let other : n y ≡ n x → ⊥ = eqb-false (n y) (n x) h in
              omega (arith, low.0)

  -- what a sort by the number leaves
  not_below : (xs : List (List ℕ)) → IsSortedBy (λ a b. is_lt (nat_cmp (n a) (n b))) xs → NotBelow xs
  not_below [] sorted = tt
  not_below (x ∷ xs) sorted = (
    recursion_from_All (λ y. n x ≤ n y) xs
        (λ i d lt. ge_from_not_lt (n (get_or xs i d)) (n x)
        (sorted_far (λ a b. is_lt (nat_cmp (n a) (n b))) weak (x ∷ xs) sorted 0 (suc i) d (omega arith)
        (omega arith))),
    not_below xs (λ k d low high. let next : suc k + 1 ≡ suc (k + 1) = omega arith
        in subst (λ (m : ℕ). is_lt (nat_cmp (n (get_or (x ∷ xs) m d)) (n (get_or (x ∷ xs) (suc k) d))) ≡ false) next
        (sorted (suc k) d (omega arith) (omega arith))),
  )
    where
      weak : IsStrictWeakOrder (λ a b. is_lt (nat_cmp (n a) (n b)))
      weak = ranks_by nat_cmp_total n

  pub ascend_sorted : (gathered xs : List (List ℕ)) → IsPermutation gathered xs
      → IsSortedBy (λ a b. is_lt (nat_cmp (n a) (n b))) xs → ((t : ℕ) → count t gathered ≤ 1) → Ascend xs
  ascend_sorted gathered xs moved sorted most =
      strictly xs (not_below xs sorted) (λ t. omega (arith, most t, sum_by-IsPermutation (λ x. bit (eqb (n x) t)) gathered xs moved))
