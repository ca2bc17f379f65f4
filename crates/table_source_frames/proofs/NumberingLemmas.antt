-- Numbers of things, in the order in which they first come.
use Rattle.std.proofs.Common.{◌≡◌, ℕ, zero, suc, ◌+◌, ◌-◌, ◌<◌, ◌≤◌, Bool, true, false, List, [], ◌∷◌, ◌++◌, length}
use Rattle.std.proofs.Common.{refl, sym, ap, ◌∙◌, subst, inl, inr, arith, Option, Some, None, ◌⊎◌, slice_get}
use Rattle.std.specs.Prelude.{filter_map, flat_map, map, unwrap_or}
use Rattle.std.specs.List.{cons_option, list_any, position_from}
use Rattle.std.proofs.lemmas.Bool.{cases_Bool, cond-true, cond-false, or_cases, or_parts, false≢true}
use Rattle.std.proofs.lemmas.Option.{none-some, same_Some, slice_get_within}
use Rattle.table_source_frames.specs.Numbering.{numbered_with, numbered_after, number_in}

-- a test says of any two whether they are equal
abbrev pub IsExact : {A : Type 0} → (A → A → Bool) → Type 0
IsExact {A} same = (x y : A) → (same x y ≡ true → x ≡ y) × (x ≡ y → same x y ≡ true)

-- x stands among some
abbrev pub Has : {A : Type 0} → List A → A → Type 0
Has xs x = (k : ℕ) × (slice_get xs k ≡ Some x)

pub has_rest : {A : Type 0} (y : A) (xs : List A) (x : A) → Has xs x → Has (y ∷ xs) x
has_rest y xs x h = (suc h.0, h.1)

pub has_left : {A : Type 0} (xs ys : List A) (x : A) → Has xs x → Has (xs ++ ys) x
has_left {A = A} xs ys x h = at_place xs h.0 h.1
  where
    at_place : (xs : List A) (k : ℕ) → slice_get xs k ≡ Some x → Has (xs ++ ys) x
    at_place [] k e = absurd (none-some x e)
    at_place (y ∷ xs) zero e = (0, e)
    at_place (y ∷ xs) (suc k) e = has_rest y (xs ++ ys) x (at_place xs k e)

pub has_right : {A : Type 0} (xs ys : List A) (x : A) → Has ys x → Has (xs ++ ys) x
has_right [] ys x h = h
has_right (y ∷ xs) ys x h = has_rest y (xs ++ ys) x (has_right xs ys x h)

has_append_cases : {A : Type 0} (xs ys : List A) (x : A) → Has (xs ++ ys) x → Has xs x ⊎ Has ys x
has_append_cases {A = A} xs ys x h = at_place xs h.0 h.1
  where
    at_place : (xs : List A) (k : ℕ) → slice_get (xs ++ ys) k ≡ Some x → Has xs x ⊎ Has ys x
    at_place [] k e = inr (k, e)
    at_place (y ∷ xs) zero e = inl (0, e)
    at_place (y ∷ xs) (suc k) e = elim (at_place xs k e) [ inl h ↦ inl (has_rest y xs x h) | inr h ↦ inr h ]

pub has_push_cases : {A : Type 0} (xs : List A) (y x : A) → Has (xs ++ y ∷ []) x → Has xs x ⊎ (y ≡ x)
has_push_cases xs y x h = elim (has_append_cases xs (y ∷ []) x h) [ inl k ↦ inl k | inr k ↦ inr (only k.0 k.1) ]
  where
    only : (k : ℕ) → slice_get (y ∷ []) k ≡ Some x → y ≡ x
    only zero e = same_Some y x e
    only (suc k) e = absurd (none-some x e)

pub has_flat_map_cases : {A B : Type 0} (f : A → List B) (xs : List A) (y : B) → Has (flat_map f xs) y → (x : A) × Has xs x × Has (f x) y
has_flat_map_cases f [] y h = absurd (none-some y h.1)
has_flat_map_cases f (x ∷ xs) y h = elim (has_append_cases (f x) (flat_map f xs) y h) [
  | inl k ↦ (x, (0, refl), k)
  | inr k ↦ let rest = has_flat_map_cases f xs y k in (rest.0, has_rest x xs rest.0 rest.1, rest.2)
]

-- what a function gives of one that stands there is among what it gives of all
pub has_filter_map : {A B : Type 0} (f : A → Option B) (xs : List A) (k : ℕ) (x : A) (y : B) → slice_get xs k ≡ Some x → f x ≡ Some y → Has (filter_map f xs) y
has_filter_map {B = B} f [] k x y is e = absurd (none-some x is)
has_filter_map {B = B} f (z ∷ xs) zero x y is e = (0, ap (λ (o : Option B). slice_get (cons_option o (filter_map f xs)) 0) (ap f (same_Some z x is) ∙ e))
has_filter_map {B = B} f (z ∷ xs) (suc k) x y is e = later (f z) (has_filter_map f xs k x y is e)
  where
    later : (o : Option B) → Has (filter_map f xs) y → Has (cons_option o (filter_map f xs)) y
    later None h = h
    later (Some w) h = has_rest w (filter_map f xs) y h

pub has_map : {A B : Type 0} (f : A → B) (xs : List A) (x : A) → Has xs x → Has (map f xs) (f x)
has_map {A = A} f xs x h = at_place xs h.0 h.1
  where
    at_place : (xs : List A) (k : ℕ) → slice_get xs k ≡ Some x → Has (map f xs) (f x)
    at_place [] k e = absurd (none-some x e)
    at_place (y ∷ xs) zero e = (0, ap (λ z. Some (f z)) (same_Some y x e))
    at_place (y ∷ xs) (suc k) e = has_rest (f y) (map f xs) (f x) (at_place xs k e)

pub has_flat_map : {A B : Type 0} (f : A → List B) (xs : List A) (k : ℕ) (x : A) (y : B) → slice_get xs k ≡ Some x → Has (f x) y → Has (flat_map f xs) y
has_flat_map f [] k x y is h = absurd (none-some x is)
has_flat_map f (z ∷ xs) zero x y is h = has_left (f z) (flat_map f xs) y (subst (λ w. Has (f w) y) (sym (same_Some z x is)) h)
has_flat_map f (z ∷ xs) (suc k) x y is h = has_right (f z) (flat_map f xs) y (has_flat_map f xs k x y is h)

module _ {A : Type 0} (same : A → A → Bool) (decides : IsExact same) where
  -- the number of x among some that are numbered from n on
  abbrev number_from : ℕ → List A → A → ℕ
  number_from n xs x = unwrap_or (position_from (same x) n xs) 0

  at_first : (n : ℕ) (y : A) (xs : List A) (x : A) → same x y ≡ true → number_from n (y ∷ xs) x ≡ n
  at_first n y xs x e = ap (λ (o : Option ℕ). unwrap_or o 0) (cond-true (same x y) (Some n) (position_from (same x) (n + 1) xs) e)

  at_rest : (n : ℕ) (y : A) (xs : List A) (x : A) → same x y ≡ false → number_from n (y ∷ xs) x ≡ number_from (n + 1) xs x
  at_rest n y xs x e = ap (λ (o : Option ℕ). unwrap_or o 0) (cond-false (same x y) (Some n) (position_from (same x) (n + 1) xs) e)

  abbrev HasNumberFrom : ℕ → List A → A → Type 0
  HasNumberFrom n xs x = (k : ℕ) × (slice_get xs k ≡ Some x) × (number_from n xs x ≡ n + k)

  abbrev HasNoNumberFrom : ℕ → List A → A → Type 0
  HasNoNumberFrom n xs x = (number_from n xs x ≡ 0) × ((k : ℕ) → slice_get xs k ≡ Some x → ⊥)

  from_cases : (n : ℕ) (xs : List A) (x : A) → HasNumberFrom n xs x ⊎ HasNoNumberFrom n xs x
  from_cases n [] x = inr (refl, λ k e. none-some x e)
  from_cases n (y ∷ xs) x = elim (cases_Bool (same x y)) [
    | inl e ↦ inl (0, ap Some (sym ((decides x y).0 e)), at_first n y xs x e ∙ omega arith)
    | inr e ↦ elim (from_cases (n + 1) xs x) [
      | inl h ↦ inl (suc h.0, h.1, at_rest n y xs x e ∙ h.2 ∙ omega arith)
      | inr h ↦ inr (at_rest n y xs x e ∙ h.0, later e h.1)
    ]
  ]
    where
      later : same x y ≡ false → ((k : ℕ) → slice_get xs k ≡ Some x → ⊥) → (k : ℕ) → slice_get (y ∷ xs) k ≡ Some x → ⊥
      later e none zero is = false≢true (sym e ∙ (decides x y).1 (sym (same_Some y x is)))
      later e none (suc k) is = none k is

  -- x has a number, by which it stands, or has none
  pub number_cases : (xs : List A) (x : A)
      → ((k : ℕ) × (slice_get xs k ≡ Some x) × (number_in same xs x ≡ 1 + k)) ⊎ ((number_in same xs x ≡ 0) × ((k : ℕ) → slice_get xs k ≡ Some x → ⊥))
  unfolding number_in
  number_cases xs x = from_cases 1 xs x

  -- what has a number stands there
  pub numbered_at : (xs : List A) (x : A) → 0 < number_in same xs x → slice_get xs (number_in same xs x - 1) ≡ Some x
  numbered_at xs x some = elim (number_cases xs x) [
    | inl h ↦ subst (λ n. slice_get xs n ≡ Some x) (omega (arith, h.2)) h.1
    | inr h ↦ absurd (omega (arith, some, h.0))
  ]

  -- what stands has a number
  pub number_of_member : (xs : List A) (x : A) (k : ℕ) → slice_get xs k ≡ Some x → 0 < number_in same xs x
  number_of_member xs x k is = elim (number_cases xs x) [
    | inl h ↦ omega (arith, h.2)
    | inr h ↦ absurd (h.1 k is)
  ]

  pub number_within : (xs : List A) (x : A) → number_in same xs x ≤ length xs
  number_within xs x = elim (number_cases xs x) [
    | inl h ↦ omega (arith, h.2, slice_get_within xs h.0 x h.1)
    | inr h ↦ omega (arith, h.0)
  ]

  -- ---- more of them

  from_append : (n : ℕ) (xs ys : List A) (x : A) → 0 < number_from n xs x → number_from n (xs ++ ys) x ≡ number_from n xs x
  from_append n [] ys x some = absurd (omega (arith, some))
  from_append n (y ∷ xs) ys x some = elim (cases_Bool (same x y)) [
    | inl e ↦ at_first n y (xs ++ ys) x e ∙ sym (at_first n y xs x e)
    | inr e ↦ at_rest n y (xs ++ ys) x e ∙ from_append (n + 1) xs ys x (omega (arith, some, at_rest n y xs x e)) ∙ sym (at_rest n y xs x e)
  ]

  from_push : (n : ℕ) (xs : List A) (x : A) → 0 < n → number_from n xs x ≡ 0 → number_from n (xs ++ x ∷ []) x ≡ n + length xs
  from_push n [] x some none = at_first n x [] x ((decides x x).1 refl) ∙ omega arith
  from_push n (y ∷ xs) x some none = elim (cases_Bool (same x y)) [
    | inl e ↦ absurd (omega (arith, at_first n y xs x e, none, some))
    | inr e ↦ at_rest n y (xs ++ x ∷ []) x e ∙ from_push (n + 1) xs x (omega arith) (sym (at_rest n y xs x e) ∙ none) ∙ omega arith
  ]

  from_push_other : (n : ℕ) (xs : List A) (x y : A) → (y ≡ x → ⊥) → number_from n (xs ++ x ∷ []) y ≡ number_from n xs y
  from_push_other n [] x y ne = elim (cases_Bool (same y x)) [
    | inl e ↦ absurd (ne ((decides y x).0 e))
    | inr e ↦ at_rest n x [] y e
  ]
  from_push_other n (z ∷ xs) x y ne = elim (cases_Bool (same y z)) [
    | inl e ↦ at_first n z (xs ++ x ∷ []) y e ∙ sym (at_first n z xs y e)
    | inr e ↦ at_rest n z (xs ++ x ∷ []) y e ∙ from_push_other (n + 1) xs x y ne ∙ sym (at_rest n z xs y e)
  ]

  pub number-push_other : (xs : List A) (x y : A) → (y ≡ x → ⊥) → number_in same (xs ++ x ∷ []) y ≡ number_in same xs y
  unfolding number_in
  number-push_other xs x y ne = from_push_other 1 xs x y ne

  pub number-append : (xs ys : List A) (x : A) → 0 < number_in same xs x → number_in same (xs ++ ys) x ≡ number_in same xs x
  unfolding number_in
  number-append xs ys x some = from_append 1 xs ys x some

  pub number-push : (xs : List A) (x : A) → number_in same xs x ≡ 0 → number_in same (xs ++ x ∷ []) x ≡ 1 + length xs
  unfolding number_in
  number-push xs x none = from_push 1 xs x (omega arith) none

  any_from : (n : ℕ) (xs : List A) (x : A) → 0 < n → list_any (same x) xs ≡ true → 0 < number_from n xs x
  any_from n [] x some any = absurd (false≢true any)
  any_from n (y ∷ xs) x some any = elim (cases_Bool (same x y)) [
    | inl e ↦ omega (arith, some, at_first n y xs x e)
    | inr e ↦ elim (or_cases (same x y) (list_any (same x) xs) any) [
      | inl f ↦ absurd (false≢true (sym e ∙ f))
      | inr f ↦ omega (arith, at_rest n y xs x e, any_from (n + 1) xs x (omega arith) f)
    ]
  ]

  none_from : (n : ℕ) (xs : List A) (x : A) → list_any (same x) xs ≡ false → number_from n xs x ≡ 0
  none_from n [] x none = refl
  none_from n (y ∷ xs) x none =
      let parts = or_parts (same x y) (list_any (same x) xs) none in
      at_rest n y xs x parts.0 ∙ none_from (n + 1) xs x parts.1

  any_number : (xs : List A) (x : A) → list_any (same x) xs ≡ true → 0 < number_in same xs x
  unfolding number_in
  any_number xs x any = any_from 1 xs x (omega arith) any

  no_number : (xs : List A) (x : A) → list_any (same x) xs ≡ false → number_in same xs x ≡ 0
  unfolding number_in
  no_number xs x none = none_from 1 xs x none

  -- one more is numbered: it has a number, or gets the next one
  pub with_cases : (xs : List A) (x : A)
      → ((0 < number_in same xs x) × (numbered_with same xs x ≡ xs)) ⊎ ((number_in same xs x ≡ 0) × (numbered_with same xs x ≡ xs ++ x ∷ []))
  with_cases xs x = elim (cases_Bool (list_any (same x) xs)) [
    | inl e ↦ inl (any_number xs x e, cond-true (list_any (same x) xs) xs (xs ++ x ∷ []) e)
    | inr e ↦ inr (no_number xs x e, cond-false (list_any (same x) xs) xs (xs ++ x ∷ []) e)
  ]

  pub with_keeps : (xs : List A) (x y : A) → 0 < number_in same xs y → number_in same (numbered_with same xs x) y ≡ number_in same xs y
  with_keeps xs x y some = elim (with_cases xs x) [
    | inl h ↦ ap (λ l. number_in same l y) h.1
    | inr h ↦ ap (λ l. number_in same l y) h.1 ∙ number-append xs (x ∷ []) y some
  ]

  pub with_has : (xs : List A) (x : A) → 0 < number_in same (numbered_with same xs x) x
  with_has xs x = elim (with_cases xs x) [
    | inl h ↦ subst (λ l. 0 < number_in same l x) (sym h.1) h.0
    | inr h ↦ subst (λ l. 0 < number_in same l x) (sym h.1) (omega (arith, number-push xs x h.0))
  ]

  with_each : (P : A → Type 0) (xs : List A) (y : A) → ((x : A) → Has xs x → P x) → P y → (z : A) → Has (numbered_with same xs y) z → P z
  with_each P xs y of also z h = elim (with_cases xs y) [
    | inl e ↦ of z (subst (λ l. Has l z) e.1 h)
    | inr e ↦ elim (has_push_cases xs y z (subst (λ l. Has l z) e.1 h)) [ inl k ↦ of z k | inr is ↦ subst P is also ]
  ]

  -- after some more, each that had a number has it still
  pub after_keeps : (xs ys : List A) (y : A) → 0 < number_in same xs y → number_in same (numbered_after same xs ys) y ≡ number_in same xs y
  unfolding numbered_after
  after_keeps xs [] y some = refl
  after_keeps xs (z ∷ ys) y some =
      after_keeps (numbered_with same xs z) ys y (omega (arith, some, with_keeps xs z y some)) ∙ with_keeps xs z y some

  -- and each of these has one
  pub after_has : (xs ys : List A) (y : A) (k : ℕ) → slice_get ys k ≡ Some y → 0 < number_in same (numbered_after same xs ys) y
  unfolding numbered_after
  after_has xs [] y k is = absurd (none-some y is)
  after_has xs (z ∷ ys) y zero is =
      let some : 0 < number_in same (numbered_with same xs z) y =
      subst (λ w. 0 < number_in same (numbered_with same xs z) w) (same_Some z y is) (with_has xs z) in
      omega (arith, some, after_keeps (numbered_with same xs z) ys y some)
  after_has xs (z ∷ ys) y (suc k) is = after_has (numbered_with same xs z) ys y k is

  pub after-append : (xs ys zs : List A) → numbered_after same xs (ys ++ zs) ≡ numbered_after same (numbered_after same xs ys) zs
  unfolding numbered_after
  after-append xs [] zs = refl
  after-append xs (y ∷ ys) zs = after-append (numbered_with same xs y) ys zs

  -- what holds of those that have a number, and of some more, holds of all that have one then
  pub after_each : (P : A → Type 0) (xs ys : List A) → ((x : A) → Has xs x → P x) → ((y : A) → Has ys y → P y) → (z : A)
      → Has (numbered_after same xs ys) z → P z
  unfolding numbered_after
  after_each P xs [] of also z h = of z h
  after_each P xs (y ∷ ys) of also z h = after_each P (numbered_with same xs y) ys
      (with_each P xs y of (also y (0, refl))) (λ w k. also w (has_rest y ys w k)) z h
