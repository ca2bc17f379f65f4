-- Addresses under their units, one after another.
use Rattle.std.proofs.Common.{◌≡◌, ℕ, zero, suc, ◌+◌, Bool, cond, ◌==◌, nat_lt, List, [], ◌∷◌, ◌++◌, length, get_or, Option, Some, None, refl, sym, ap}
use Rattle.std.proofs.Common.{subst, ◌∙◌, inl, inr, arith, ◌↔◌, Contains}
use Rattle.std.proofs.lemmas.Bool.{cases_Bool, eqb-true, eq-eqb, ltb-true, ltb-false}
use Rattle.std.proofs.lemmas.List.Elements.{Contains-append_cases, Contains-append_left, Contains-append_right}
use Rattle.std.proofs.lemmas.Option.{none-some, same_Some}
use Rattle.dwarf_source_frames.specs.ByUnit.{IsPlacedWithin, placed_under, placed_without}

pub not_in_none : (a : ℕ) → Contains [] a → ⊥
not_in_none a h = omega (arith, h.1)

pub in_one : (x a : ℕ) → Contains (x ∷ []) a → x ≡ a
in_one x a (zero, l, e) = e
in_one x a (suc k, l, e) = absurd (omega (arith, l))

pub of_one : (x a : ℕ) → x ≡ a → Contains (x ∷ []) a
of_one x a e = (0, omega arith, e)

under_added : (own : Option ℕ) (place x a : ℕ) → Contains (placed_under own place x) a ↔ ((x ≡ a) × (own ≡ Some place))
under_added None place x a = (λ h. absurd (not_in_none a h), λ h. absurd (none-some place h.1))
under_added (Some own) place x a = elim (cases_Bool (own == place)) [
  | inl t ↦
      let same : own ≡ place = eqb-true own place t in (
        λ h. (in_one x a (subst (λ (b : Bool). Contains (cond b (x ∷ []) []) a) t h), ap (λ (p : ℕ). Some p) same),
        λ h. subst (λ (b : Bool). Contains (cond b (x ∷ []) []) a) (sym t) (of_one x a h.0),
      )
  | inr f ↦ (
    λ h. absurd (not_in_none a (subst (λ (b : Bool). Contains (cond b (x ∷ []) []) a) f h)),
    λ h. let same : own ≡ place = same_Some own place h.1 in absurd (cc (eq-eqb own place same, f)),
  )
]

without_added : (own : Option ℕ) (x a : ℕ) → Contains (placed_without own x) a ↔ ((x ≡ a) × (own ≡ None))
without_added None x a = (λ h. (in_one x a h, refl), λ h. of_one x a h.0)
without_added (Some own) x a = (λ h. absurd (not_in_none a h), λ h. absurd (none-some own (sym h.1)))

-- a step more
module _ (starts : List ℕ) (places : List (Option ℕ)) (i : ℕ) (a : ℕ) (p : Option ℕ) where
  step_more : (xs ys next : List ℕ) → Contains xs a ↔ IsPlacedWithin i starts places a p → next ≡ xs ++ ys
      → Contains ys a ↔ ((get_or starts i 0 ≡ a) × (get_or places i None ≡ p)) → Contains next a ↔ IsPlacedWithin (i + 1) starts places a p
  step_more xs ys next before e here = (there, back)
    where
      there : Contains next a → IsPlacedWithin (i + 1) starts places a p
      there h = elim (Contains-append_cases xs ys a (subst (λ (all : List ℕ). Contains all a) e h)) [
        | inl old ↦
            let k = before.0 old in
            (k.0, omega (arith, k.1), k.2, k.3)
        | inr added ↦
            let k = here.0 added in
            (i, omega arith, k.0, k.1)
      ]

      back : IsPlacedWithin (i + 1) starts places a p → Contains next a
      back h = subst (λ (all : List ℕ). Contains all a) (sym e) (elim (cases_Bool (nat_lt h.0 i)) [
        | inl t ↦ Contains-append_left xs ys a (before.1 (h.0, ltb-true h.0 i t, h.2, h.3))
        | inr f ↦
            let same : h.0 ≡ i = omega (arith, ltb-false h.0 i f, h.1) in
            Contains-append_right xs ys a (here.1 (ap (λ k. get_or starts k 0) (sym same) ∙ h.2, ap (λ k. get_or places k None) (sym same) ∙ h.3))
      ])

module _ (starts : List ℕ) (places : List (Option ℕ)) (i : ℕ) (own : Option ℕ) (here : own ≡ get_or places i None) where
  pub under_more : (place a : ℕ) (xs next : List ℕ) → Contains xs a ↔ IsPlacedWithin i starts places a (Some place)
      → next ≡ xs ++ placed_under own place (get_or starts i 0)
      → Contains next a ↔ IsPlacedWithin (i + 1) starts places a (Some place)
  under_more place a xs next before e =
      step_more starts places i a (Some place) xs (placed_under own place (get_or starts i 0)) next before e
      (subst (λ (o : Option ℕ). Contains (placed_under own place (get_or starts i 0)) a
      ↔ ((get_or starts i 0 ≡ a) × (o ≡ Some place))) here (under_added own place (get_or starts i 0) a))

  pub without_more : (a : ℕ) (xs next : List ℕ) → Contains xs a ↔ IsPlacedWithin i starts places a None → next ≡ xs ++ placed_without own (get_or starts i 0)
      → Contains next a ↔ IsPlacedWithin (i + 1) starts places a None
  without_more a xs next before e =
      step_more starts places i a None xs (placed_without own (get_or starts i 0)) next before e
      (subst (λ (o : Option ℕ). Contains (placed_without own (get_or starts i 0)) a
      ↔ ((get_or starts i 0 ≡ a) × (o ≡ None))) here (without_added own (get_or starts i 0) a))

-- after the last step
pub all_steps : (starts : List ℕ) (places : List (Option ℕ)) (count : ℕ) (xs : List ℕ) (a : ℕ) (p : Option ℕ) → count
    ≡ length starts → Contains xs a ↔ IsPlacedWithin count starts places a p
    → Contains xs a ↔ IsPlacedWithin (length starts) starts places a p
all_steps starts places count xs a p e h = subst (λ (n : ℕ). Contains xs a ↔ IsPlacedWithin n starts places a p) e h
