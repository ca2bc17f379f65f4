-- Ascending records, and what is above what.
use Rattle.std.proofs.Common.{◌≡◌, ℕ, true, false, List, [], ◌∷◌, ◌++◌, refl, sym, ap, ◌∙◌, subst, arith, inl, inr, ◌⊎◌}
use Rattle.std.proofs.lemmas.Bool.{false≢true, cases_Bool}
use Rattle.std.proofs.lemmas.Cmp.{nat_list_cmp_total}
use Rattle.std.specs.declared.cmp.Ordering.TheVariants.{Less, Greater}
use Rattle.std.specs.Ordering.{nat_cmp, is_lt, ordering_reverse}
use Rattle.std.specs.Cmp.Lexicographic.{slice_cmp}
use Rattle.std.specs.List.{Contains}
use Rattle.archive_records.specs.declared.format.Format.TheVariants.{Archive}
use Rattle.archive_records.specs.Kind.{allows, may_follow, IsItem}
use Rattle.archive_records.specs.Text.{InOrder, last_of}
use Rattle.archive_core.proofs.Members.{in_rest, in_cons, in_front}

-- ---- the order

pub below-less : (x y : List ℕ) → slice_cmp nat_cmp x y ≡ Less → may_follow Archive x y ≡ true
unfolding may_follow allows
below-less x y e = ap is_lt e

pub less_of : (x y : List ℕ) → may_follow Archive x y ≡ true → slice_cmp nat_cmp x y ≡ Less
unfolding may_follow allows
less_of x y p = grind arith

pub below-greater : (x y : List ℕ) → slice_cmp nat_cmp x y ≡ Greater → may_follow Archive y x ≡ true
below-greater x y e = below-less y x (nat_list_cmp_total.antisymm y x ∙ ap ordering_reverse e)

pub below-trans : (x y z : List ℕ) → may_follow Archive x y ≡ true → may_follow Archive y z ≡ true → may_follow Archive x z ≡ true
below-trans x y z p q = below-less x z (nat_list_cmp_total.trans x y z (less_of x y p) (less_of y z q))

pub below-back : (x y : List ℕ) → may_follow Archive x y ≡ true → may_follow Archive y x ≡ false
unfolding may_follow allows
below-back x y p = ap is_lt (nat_list_cmp_total.antisymm y x ∙ ap ordering_reverse (less_of x y p))

pub below-self : (x : List ℕ) → may_follow Archive x x ≡ false
unfolding may_follow allows
below-self x = let e = nat_list_cmp_total.antisymm x x in grind arith

-- ---- lists

pub all_above : (low z : List ℕ) (xs : List (List ℕ)) → InOrder Archive low xs → Contains xs z → may_follow Archive low z ≡ true
all_above low z [] a c = absurd (omega (arith, c.1))
all_above low z (x ∷ xs) a c = elim (in_cons x xs z c) [
  | inl e ↦ subst (λ (t : List ℕ). may_follow Archive low t ≡ true) e a.1
  | inr d ↦ below-trans low x z a.1 (all_above x z xs a.2 d)
]

pub last_above : (low : List ℕ) (xs : List (List ℕ)) → InOrder Archive low xs → (low ≡ last_of low xs) ⊎ (may_follow Archive low (last_of low xs) ≡ true)
last_above low [] a = inl refl
last_above low (x ∷ xs) a = elim (last_above x xs a.2) [
  | inl e ↦ inr (subst (λ (t : List ℕ). may_follow Archive low t ≡ true) e a.1)
  | inr b ↦ inr (below-trans low x (last_of x xs) a.1 b)
]

pub up_to_last : (low z : List ℕ) (xs : List (List ℕ)) → InOrder Archive low xs → Contains xs z → may_follow Archive (last_of low xs) z ≡ false
up_to_last low z [] a c = absurd (omega (arith, c.1))
up_to_last low z (x ∷ xs) a c = elim (in_cons x xs z c) [
  | inl e ↦ elim (last_above x xs a.2) [
    | inl s ↦ subst (λ (t : List ℕ). may_follow Archive t z ≡ false) s (subst (λ (t : List ℕ). may_follow Archive x t ≡ false) e (below-self x))
    | inr b ↦ subst (λ (t : List ℕ). may_follow Archive (last_of x xs) t ≡ false) e (below-back x (last_of x xs) b)
  ]
  | inr d ↦ up_to_last x z xs a.2 d
]

-- each is the last one, or below it
under_last : (low z : List ℕ) (xs : List (List ℕ)) → InOrder Archive low xs → Contains xs z → (z ≡ last_of low xs)
    ⊎ (may_follow Archive z (last_of low xs) ≡ true)
under_last low z [] a c = absurd (omega (arith, c.1))
under_last low z (x ∷ xs) a c = elim (in_cons x xs z c) [
  | inl e ↦ subst (λ (t : List ℕ). (t ≡ last_of x xs) ⊎ (may_follow Archive t (last_of x xs) ≡ true)) e (last_above x xs a.2)
  | inr d ↦ under_last x z xs a.2 d
]

last_or_none : (low : List ℕ) (xs : List (List ℕ)) → (low ≡ last_of low xs) ⊎ Contains xs (last_of low xs)
last_or_none low [] = inl refl
last_or_none low (x ∷ xs) = elim (last_or_none x xs) [
  | inl e ↦ inr (subst (Contains (x ∷ xs)) e (in_front x xs))
  | inr c ↦ inr (in_rest x xs (last_of x xs) c)
]

up_then : (a low x : List ℕ) → (a ≡ low) ⊎ (may_follow Archive a low ≡ true) → may_follow Archive low x ≡ true → may_follow Archive a x ≡ true
up_then a low x (inl e) b = subst (λ (t : List ℕ). may_follow Archive t x ≡ true) (sym e) b
up_then a low x (inr c) b = below-trans a low x c b

-- what is above the last of all records is above the last of some of them
pub last_under : (out xs : List (List ℕ)) (x : List ℕ) → InOrder Archive [] out
    → ((z : List ℕ) → Contains xs z → Contains out z) → may_follow Archive (last_of [] out) x ≡ true
    → may_follow Archive (last_of [] xs) x ≡ true
last_under out xs x a sub above = elim (last_or_none [] xs) [
  | inl e ↦ subst (λ (t : List ℕ). may_follow Archive t x ≡ true) e (up_then [] (last_of [] out) x (last_above [] out a) above)
  | inr c ↦ up_then (last_of [] xs) (last_of [] out) x (under_last [] (last_of [] xs) out a (sub (last_of [] xs) c)) above
]

-- the last of some of the records is not above the last of all
pub last_within : (out xs : List (List ℕ)) → InOrder Archive [] out → ((z : List ℕ) → Contains xs z → Contains out z)
    → may_follow Archive (last_of [] out) (last_of [] xs) ≡ false
last_within out xs a sub = elim (last_or_none [] xs) [
  | inl e ↦ subst (λ (t : List ℕ). may_follow Archive (last_of [] out) t ≡ false) e (elim (last_above [] out a) [
    | inl same ↦ subst (λ (t : List ℕ). may_follow Archive t [] ≡ false) same (below-self [])
    | inr below ↦ below-back [] (last_of [] out) below
  ])
  | inr c ↦ up_to_last [] (last_of [] xs) out a (sub (last_of [] xs) c)
]

pub InOrder-front : (low : List ℕ) (xs : List (List ℕ)) (x : List ℕ) → InOrder Archive low (xs ++ x ∷ []) → InOrder Archive low xs
InOrder-front low [] x a = tt
InOrder-front low (y ∷ ys) x a = (a.0, a.1, InOrder-front y ys x a.2)

pub InOrder-behind : (low : List ℕ) (xs ys : List (List ℕ)) → InOrder Archive low (xs ++ ys) → InOrder Archive (last_of low xs) ys
InOrder-behind low [] ys a = a
InOrder-behind low (x ∷ xs) ys a = InOrder-behind x xs ys a.2

pub last_of-append : (low : List ℕ) (xs ys : List (List ℕ)) → last_of low (xs ++ ys) ≡ last_of (last_of low xs) ys
last_of-append low [] ys = refl
last_of-append low (x ∷ xs) ys = last_of-append x xs ys

pub last_is_record : (low : List ℕ) (xs : List (List ℕ)) (x : List ℕ) → InOrder Archive low (xs ++ x ∷ []) → IsItem Archive x
last_is_record low [] x a = a.0
last_is_record low (y ∷ ys) x a = last_is_record y ys x a.2

not_self : (x z : List ℕ) (xs : List (List ℕ)) → InOrder Archive x xs → Contains xs z → x ≡ z → ⊥
not_self x z xs a c e = false≢true (sym (below-self x) ∙ subst (λ (t : List ℕ). may_follow Archive x t ≡ true) (sym e) (all_above x z xs a c))

-- the members of an ascending list that are not above low begin it
pub prefix : (lo low : List ℕ) (us os : List (List ℕ)) → InOrder Archive lo us → InOrder Archive lo os
    → ((z : List ℕ) → Contains os z → Contains us z) → ((z : List ℕ) → Contains os z → may_follow Archive low z ≡ false)
    → ((z : List ℕ) → Contains us z → may_follow Archive low z ≡ false → Contains os z) → (more : List (List ℕ)) × (us ≡ os ++ more)
prefix lo low us [] a b sub within back = (us, refl)
prefix lo low [] (o ∷ os) a b sub within back = absurd (omega (arith, (sub o (in_front o os)).1))
prefix lo low (u ∷ us) (o ∷ os) a b sub within back =
    let under : may_follow Archive low u ≡ false = elim (in_cons u us o (sub o (in_front o os))) [
      | inl e ↦ subst (λ (t : List ℕ). may_follow Archive low t ≡ false) (sym e) (within o (in_front o os))
      | inr c ↦ elim (cases_Bool (may_follow Archive low u)) [
        | inl t ↦ absurd (false≢true (sym (within o (in_front o os)) ∙ below-trans low u o t (all_above u o us a.2 c)))
        | inr f ↦ f
      ]
    ] in
    let same : u ≡ o = elim (in_cons o os u (back u (in_front u us) under)) [
      | inl e ↦ sym e
      | inr c ↦ elim (in_cons u us o (sub o (in_front o os))) [
        | inl e ↦ e
        | inr d ↦ absurd (false≢true (sym (below-back u o (all_above u o us a.2 d)) ∙ all_above o u os b.2 c))
      ]
    ] in
    let b' : InOrder Archive u os = subst (λ (t : List ℕ). InOrder Archive t os) (sym same) b.2 in
    let n = prefix u low us os a.2 b'
    (λ z c. elim (in_cons u us z (sub z (in_rest o os z c))) [ inl e ↦ absurd (not_self u z os b' c e) | inr d ↦ d ])
    (λ z c. within z (in_rest o os z c))
    (λ z c f. elim (in_cons o os z (back z (in_rest u us z c) f)) [ inl e ↦ absurd (not_self u z us a.2 c (same ∙ e)) | inr d ↦ d ]) in
    (n.0, cc (same, n.1))
