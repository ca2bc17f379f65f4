-- The first tuple that has an address.
use Rattle.std.proofs.Common.{◌≡◌, ℕ, zero, suc, ◌+◌, ◌<◌, Bool, true, false, List, [], ◌∷◌, slice_get, Option, Some}
use Rattle.std.proofs.Common.{None, refl, sym, ap, ◌∙◌, inl, inr, arith, nat_lt, nat_le, ◌&&◌, subst}
use Rattle.std.proofs.lemmas.Bool.{cases_Bool}
use Rattle.std.proofs.lemmas.Bool.Decides.{nat_tests}
use Rattle.std.proofs.lemmas.Option.{none-some}
use Rattle.dwarf_ranges.specs.Aranges.{HasAddress, IsFirstTuple}
use Rattle.dwarf_ranges.specs.Inner.{first_tuple}
use Rattle.dwarf_ranges.specs.declared.arange.Arange.{Arange}

abbrev has : ℕ → Arange → Bool
has a t = nat_le t.address a && nat_lt a (t.address + t.length)

-- the test says whether a tuple has the address
has_it : (a : ℕ) (t : Arange) → has a t ≡ true → HasAddress a t
has_it a t h = grind (arith, nat_tests)

has_not : (a : ℕ) (t : Arange) → has a t ≡ false → HasAddress a t → ⊥
has_not a t h k = grind (arith, nat_tests)

says_it : (a : ℕ) (t : Arange) → HasAddress a t → has a t ≡ true
says_it a t h = grind (arith, nat_tests)

says_not : (a : ℕ) (t : Arange) → (HasAddress a t → ⊥) → has a t ≡ false
says_not a t h = elim (cases_Bool (has a t)) [
  | inl e ↦ absurd (h (has_it a t e))
  | inr e ↦ e
]

pub step_hit : (a : ℕ) (t : Arange) (ts : List Arange) → HasAddress a t → first_tuple a (t ∷ ts) ≡ Some t
unfolding first_tuple
step_hit a t ts h = rw (says_it a t h) refl

pub step_miss : (a : ℕ) (t : Arange) (ts : List Arange) → (HasAddress a t → ⊥) → first_tuple a (t ∷ ts) ≡ first_tuple a ts
unfolding first_tuple
step_miss a t ts h = rw (says_not a t h) refl

pub step_end : (a : ℕ) → first_tuple a [] ≡ None
unfolding first_tuple
step_end a = refl

-- one tuple more in front, which has not the address
one_more : (a : ℕ) (t : Arange) (ts : List Arange) (found : Option Arange) → (HasAddress a t → ⊥) → IsFirstTuple ts a found → IsFirstTuple (t ∷ ts) a found
one_more a t ts None not is = none
  where
    none : (i : ℕ) (u : Arange) → slice_get (t ∷ ts) i ≡ Some u → HasAddress a u → ⊥
    none zero u e h = let same : u ≡ t = cc e in not (subst (HasAddress a) same h)
    none (suc i) u e h = is i u e h
one_more a t ts (Some u) not is = (suc is.0, is.1, is.2, before)
  where
    before : (j : ℕ) (v : Arange) → j < suc is.0 → slice_get (t ∷ ts) j ≡ Some v → HasAddress a v → ⊥
    before zero v l e h = let same : v ≡ t = cc e in not (subst (HasAddress a) same h)
    before (suc j) v l e h = is.3 j v (omega arith) e h

pub first_tuple-is : (a : ℕ) (ts : List Arange) → IsFirstTuple ts a (first_tuple a ts)
first_tuple-is a [] = subst (IsFirstTuple [] a) (sym (step_end a)) (λ i t e. absurd (none-some t e))
first_tuple-is a (t ∷ ts) = elim (cases_Bool (has a t)) [
  | inl e ↦ subst (IsFirstTuple (t ∷ ts) a) (sym (step_hit a t ts (has_it a t e))) (0, refl, has_it a t e, λ j u l. absurd (omega arith))
  | inr e ↦ subst (IsFirstTuple (t ∷ ts) a) (sym (step_miss a t ts (has_not a t e))) (one_more a t ts (first_tuple a ts) (has_not a t e) (first_tuple-is a ts))
]

-- no other tuple is the first
pub first_tuple-only : (a : ℕ) (ts : List Arange) (found : Option Arange) → IsFirstTuple ts a found → found ≡ first_tuple a ts
first_tuple-only a [] None is = sym (step_end a)
first_tuple-only a [] (Some u) is = absurd (none-some u is.1)
first_tuple-only a (t ∷ ts) None is =
    first_tuple-only a ts None (λ i u e h. is (suc i) u e h) ∙ sym (step_miss a t ts (λ h. is 0 t refl h))
first_tuple-only a (t ∷ ts) (Some u) is = place (first_tuple-only a ts (Some u)) is.0 is.1 is.2 is.3
  where
    place : (IsFirstTuple ts a (Some u) → Some u ≡ first_tuple a ts) → (i : ℕ) → slice_get (t ∷ ts) i ≡ Some u
        → HasAddress a u → ((j : ℕ) (v : Arange) → j < i → slice_get (t ∷ ts) j ≡ Some v → HasAddress a v → ⊥)
        → Some u ≡ first_tuple a (t ∷ ts)
    place after zero e h before =
        let same : u ≡ t = cc e in
        ap (λ (v : Arange). Some v) same ∙ sym (step_hit a t ts (subst (HasAddress a) same h))
    place after (suc i) e h before =
        after (i, e, h, λ j v l k g. before (suc j) v (omega arith) k g)
        ∙ sym (step_miss a t ts (λ k. before 0 t (omega arith) refl k))

pub one_first_tuple : (ts : List Arange) (a : ℕ) (one other : Option Arange) → IsFirstTuple ts a one → IsFirstTuple ts a other → one ≡ other
one_first_tuple ts a one other h k = first_tuple-only a ts one h ∙ sym (first_tuple-only a ts other k)
