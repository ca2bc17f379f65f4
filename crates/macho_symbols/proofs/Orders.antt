-- The first of some candidates.
use Rattle.std.proofs.Common.{◌≡◌, ◌≢◌, ◌⊎◌, inl, inr, zero, suc, Bool, true, List, [], ◌∷◌, Option, Some, None}
use Rattle.std.proofs.Common.{MatchOption, cond, Contains, arith, refl, ap, subst, sym, ◌∙◌}
use Rattle.std.specs.Ordering.{is_lt}
use Rattle.std.specs.declared.cmp.Ordering.TheVariants.{Less}
use Rattle.std.proofs.lemmas.Cmp.{upto}
use Rattle.std.proofs.lemmas.Bool.{cond_both, cases_Bool}
use Rattle.macho_symbols.specs.Symbols.{Tuple}
use Rattle.macho_symbols.specs.Nearest.{tuple_cmp, IsFirst}
use Rattle.macho_symbols.proofs.Order.{UpTo, tuples_total, upto_itself, not_less, upto_other, upto_less}

-- the first of some in the order of candidates, or none where there is none
abbrev pub IsFirstOrNone : (Tuple → Type 0) → Option Tuple → Type 0
IsFirstOrNone among found = MatchOption found ((c : Tuple) → among c → ⊥) (IsFirst among)

-- the first of two, either of which may be none
abbrev pub first_of_two : Option Tuple → Option Tuple → Option Tuple
first_of_two best None = best
first_of_two None (Some c) = Some c
first_of_two (Some b) (Some c) = cond (is_lt (tuple_cmp c b)) (Some c) (Some b)

-- the same ones have the same first
pub first_of_same : (P Q : Tuple → Type 0) (r : Option Tuple) → ((c : Tuple) → P c → Q c) → ((c : Tuple) → Q c → P c) → IsFirstOrNone P r → IsFirstOrNone Q r
first_of_same P Q None there back h = λ c q. h c (back c q)
first_of_same P Q (Some f) there back h = record {
  member = there f h.member;
  first = λ c q. h.first c (back c q);
}

pub upto_from_not_less : (c d : Tuple) → tuple_cmp d c ≢ Less → UpTo c d
upto_from_not_less c d h = upto_other tuple_cmp tuples_total d c (grind arith)

-- what does not come after the first of some comes after none of them
below_first : (P : Tuple → Type 0) (f g : Tuple) → IsFirst P f → UpTo g f → (c : Tuple) → P c → tuple_cmp c g ≢ Less
below_first P f g h up c p = not_less g c (upto tuples_total g f c up (upto_from_not_less f c (h.first c p)))

-- the first of the first ones of two kinds is the first of both
pub first_of_both : (P Q : Tuple → Type 0) (p q : Option Tuple) → IsFirstOrNone P p → IsFirstOrNone Q q → IsFirstOrNone (λ c. P c ⊎ Q c) (first_of_two p q)
first_of_both P Q None None h k = λ c e. elim e [ inl i ↦ h c i | inr j ↦ k c j ]
first_of_both P Q (Some f) None h k =
    first_of_same P (λ c. P c ⊎ Q c) (Some f) (λ c i. inl i) (λ c e. elim e [ inl i ↦ i | inr j ↦ absurd (k c j) ]) h
first_of_both P Q None (Some g) h k =
    first_of_same Q (λ c. P c ⊎ Q c) (Some g) (λ c j. inr j) (λ c e. elim e [ inl i ↦ absurd (h c i) | inr j ↦ j ]) k
first_of_both P Q (Some f) (Some g) h k =
    cond_both (is_lt (tuple_cmp g f)) (Some g) (Some f) (IsFirstOrNone (λ c. P c ⊎ Q c))
    (λ e. record {
      member = inr k.member;
      first = λ c i. elim i [ inl a ↦ below_first P f g h (upto_less tuple_cmp tuples_total g f e) c a | inr b ↦ k.first c b ];
    })
    (λ e. record {
      member = inl h.member;
      first = λ c i. elim i [ inl a ↦ h.first c a | inr b ↦ below_first Q g f k (upto_other tuple_cmp tuples_total g f e) c b ];
    })

-- of the elements of a list that pass a test one is the first, or there is none
pub first_passing : (passes : Tuple → Bool) (cs : List Tuple) → (found : Option Tuple) × IsFirstOrNone (λ c. Contains cs c × (passes c ≡ true)) found
first_passing passes [] = (None, λ c h. omega (arith, h.0.1))
first_passing passes (x ∷ xs) =
    let rest = first_passing passes xs in
    elim (cases_Bool (passes x)) [
      | inl e ↦ (
        first_of_two (Some x) rest.0,
        first_of_same _ (λ c. Contains (x ∷ xs) c × (passes c ≡ true)) (first_of_two (Some x) rest.0)
            (λ c h. elim h [ inl i ↦ ((0, omega arith, i.0), ap passes (sym i.0) ∙ e) | inr k ↦ later c k ]) head_or_rest
            (first_of_both (λ c. (x ≡ c) × (passes x ≡ true)) (λ c. Contains xs c × (passes c ≡ true)) (Some x) rest.0
            (record { member = (refl, e); first = λ c i. subst (λ y. tuple_cmp y x ≢ Less) i.0 (not_less x x (upto_itself x)) }) rest.1),
      )
      | inr e ↦ (
        rest.0,
        first_of_same (λ c. Contains xs c × (passes c ≡ true)) (λ c. Contains (x ∷ xs) c × (passes c ≡ true)) rest.0 later
            (λ c h. elim (head_or_rest c h) [ inl i ↦ absurd (cc (i.1, e)) | inr k ↦ k ]) rest.1,
      )
    ]
  where
    later : (c : Tuple) → Contains xs c × (passes c ≡ true) → Contains (x ∷ xs) c × (passes c ≡ true)
    later c h = ((suc h.0.0, omega (arith, h.0.1), h.0.2), h.1)

    head_or_rest : (c : Tuple) → Contains (x ∷ xs) c × (passes c ≡ true) → ((x ≡ c) × (passes x ≡ true)) ⊎ (Contains xs c × (passes c ≡ true))
    head_or_rest c ((zero, l, e), p) = inl (e, ap passes e ∙ p)
    head_or_rest c ((suc k, l, e), p) = inr ((k, omega (arith, l), e), p)
