-- Numbers in the order of their first use.
use Rattle.std.proofs.Common.{OnOk, Result, Ok, Err, ◌≡◌, ◌≢◌, ℕ, zero, suc, ◌+◌, ◌<◌, Bool, true, false, nat_eq, List, [], ◌∷◌, ◌++◌, length, get_or, set}
use Rattle.std.proofs.Common.{refl, sym, ap, ◌∙◌, inl, inr, arith, unwrap_or, subst, ◌^◌, ◌≤◌, map, Option}
use Rattle.std.specs.List.{list_any, position_from}
use Rattle.std.proofs.lemmas.Bool.{cases_Bool, cases_eq, eq-eqb, eqb-true}
use Rattle.std.proofs.lemmas.List.{get_or-set_same, get_or-set_other, get_or_append_left, get_or_push, length-set, length_push, map-append}
use Rattle.std.proofs.lemmas.Bool.Decides.{same_from_decides}
use Rattle.std.proofs.lemmas.Option.{get_or_from_slice_get, slice_get_within}
use Rattle.table_source_frames.specs.Numbering.{number_in, numbered_after, numbered_with, number_or_zero}
use Rattle.table_source_frames.proofs.NumberingLemmas.{IsExact, number-push, number-push_other, number_cases, with_cases}
use Rattle.table_source_frames_build.specs.FirstUses.{AreGiven, some_number}
use Rattle.table_source_frames_build.specs.Numbering.{IsNumber}
use Rattle.table_source_frames_build.specs.Kept.{at_number}

pub exact_numbers : IsExact nat_eq
exact_numbers x y = (eqb-true x y, eq-eqb x y)

-- a number that is used already
pub taken_same : (given order : List ℕ) (place number : ℕ) → AreGiven given order → place < length given → number
    ≡ suc place → get_or given place 0 ≢ 0 → order ≡ numbered_with nat_eq order number
taken_same given order place number are within is some = elim (with_cases nat_eq exact_numbers order number) [
  | inl h ↦ sym h.1
  | inr h ↦ absurd (some (are.each place within ∙ ap (number_in nat_eq order) (sym is) ∙ h.0))
]

-- one that is not
module _ (given order : List ℕ) (place number : ℕ) (are : AreGiven given order) (within : place < length given)
    (is : number ≡ suc place) (none : get_or given place 0 ≡ 0) where
  unused : number_in nat_eq order number ≡ 0
  unused = ap (number_in nat_eq order) is ∙ sym (are.each place within) ∙ none

  pub taken_more : order ++ number ∷ [] ≡ numbered_with nat_eq order number
  taken_more = elim (with_cases nat_eq exact_numbers order number) [
    | inl h ↦ absurd (omega (arith, unused, h.0))
    | inr h ↦ sym h.1
  ]

  pub given_more : (next : ℕ) → next ≡ suc (length order) → next < 2 ^ 32 → AreGiven (set given place next) (order ++ number ∷ [])
  given_more next is_next small = record {
    each = λ index h. elim (cases_eq index place) [
      | inl same ↦
          let new : next ≡ number_in nat_eq (order ++ number ∷ []) number = omega (arith, is_next, number-push nat_eq exact_numbers order number unused) in
          ap (λ n. get_or (set given place next) n 0) same ∙ get_or-set_same given place next 0 within
          ∙ new ∙ ap (number_in nat_eq (order ++ number ∷ [])) (is ∙ ap suc (sym same))
      | inr other ↦
          get_or-set_other given place index next 0 other ∙ are.each index (omega (arith, h, length-set given place next))
          ∙ sym (number-push_other nat_eq exact_numbers order number (suc index) (λ e. other (omega (arith, e, is))))
    ];
    within = λ at h. elim (cases_eq at (length order)) [
      | inl last ↦
          let here : number ≡ get_or (order ++ number ∷ []) at 0 = sym (get_or_push order number 0 at (sym last)) in
          subst (IsNumber (length (set given place next))) here
          (record { some = omega (arith, is); within = omega (arith, is, within, length-set given place next) })
      | inr other ↦
          let before : at < length order = omega (arith, h, length_push order number, other) in
          let same : get_or order at 0 ≡ get_or (order ++ number ∷ []) at 0 = sym (get_or_append_left order (number ∷ []) 0 at before) in
          let old = are.within at before in
          subst (IsNumber (length (set given place next))) same (record { some = old.some; within = omega (arith, old.within, length-set given place next) })
    ];
    few = omega (arith, is_next, small, length_push order number);
  }

-- a number, if it is not 0
pub none_after : (order : List ℕ) (n : ℕ) → n ≡ 0 → numbered_after nat_eq order (some_number n) ≡ order
unfolding numbered_after
none_after order n e = rw e refl

pub some_after : (order : List ℕ) (n : ℕ) → 0 < n → numbered_after nat_eq order (some_number n) ≡ numbered_with nat_eq order n
unfolding numbered_after
some_after order zero h = absurd (omega arith)
some_after order (suc i) h = refl

pub on_same : {T E : Type 0} (r : Result T E) (new one two : List ℕ) → one ≡ two → OnOk r (new ≡ two) → OnOk r (new ≡ one)
on_same (Ok x) new one two e h = h ∙ sym e
on_same (Err x) new one two e h = h

-- 0 is not used
not_zero : (xs : List ℕ) → ((i : ℕ) → i < length xs → 0 < get_or xs i 0) → number_in nat_eq xs 0 ≡ 0
not_zero xs some = elim (number_cases nat_eq exact_numbers xs 0) [
  | inl h ↦ absurd (omega (arith, some h.0 (slice_get_within xs h.0 0 h.1), get_or_from_slice_get xs h.0 0 0 h.1))
  | inr h ↦ h.0
]

pub zero_number : (given order : List ℕ) (n : ℕ) → AreGiven given order → n ≡ 0 → 0 ≡ number_in nat_eq order n
zero_number given order n are e = sym (ap (number_in nat_eq order) e ∙ not_zero order (λ i less. (are.within i less).some))

-- ---- things in the order of their first use, and their numbers

-- each of some numbers
abbrev pub Each : (ℕ → Type 0) → List ℕ → Type 0
Each P [] = Unit {0}
Each P (x ∷ xs) = P x × Each P xs

pub each_append : (P : ℕ → Type 0) (xs ys : List ℕ) → Each P xs → Each P ys → Each P (xs ++ ys)
each_append P [] ys a b = b
each_append P (x ∷ xs) ys a b = (a.0, each_append P xs ys a.1 b)

pub at_each : (P : ℕ → Type 0) (xs : List ℕ) → Each P xs → (i : ℕ) → i < length xs → P (get_or xs i 0)
at_each P [] a i less = absurd (omega arith)
at_each P (x ∷ xs) a zero less = a.0
at_each P (x ∷ xs) a (suc i) less = at_each P xs a.1 i (omega arith)

each_with : (P : ℕ → Type 0) (xs : List ℕ) (x : ℕ) → Each P xs → P x → Each P (numbered_with nat_eq xs x)
each_with P xs x a p = elim (cases_Bool (list_any (nat_eq x) xs)) [
  | inl t ↦ rw t a
  | inr f ↦ rw f (each_append P xs (x ∷ []) a (p, tt))
]

pub each_after : (P : ℕ → Type 0) (order xs : List ℕ) → Each P order → Each P xs → Each P (numbered_after nat_eq order xs)
unfolding numbered_after
each_after P order [] a b = a
each_after P order (x ∷ xs) a b = each_after P (numbered_with nat_eq order x) xs (each_with P order x a b.0) b.1

-- what numbers tell of, where no two tell of one thing
module _ {A : Type 0} (P : ℕ → Type 0) (f : ℕ → A) (same : A → A → Bool) (exact : IsExact same) (apart : (m n : ℕ) → P m → P n → f m ≡ f n → m ≡ n) where
  pub told_same : (m n : ℕ) → P m → P n → same (f m) (f n) ≡ nat_eq m n
  told_same m n a b =
      same_from_decides (same (f m) (f n)) (nat_eq m n) (λ e. apart m n a b ((exact (f m) (f n)).0 e), λ e. (exact (f m) (f n)).1 (ap f e)) (exact_numbers m n)

  told_any : (xs : List ℕ) (n : ℕ) → Each P xs → P n → list_any (same (f n)) (map f xs) ≡ list_any (nat_eq n) xs
  told_any [] n each p = refl
  told_any (x ∷ xs) n each p = rw (told_same n x p each.0, told_any xs n each.1 p) refl

  pub told_with : (xs : List ℕ) (n : ℕ) → Each P xs → P n → numbered_with same (map f xs) (f n) ≡ map f (numbered_with nat_eq xs n)
  told_with xs n each p = elim (cases_Bool (list_any (nat_eq n) xs)) [
    | inl t ↦ let is : list_any (same (f n)) (map f xs) ≡ true = told_any xs n each p ∙ t in rw (t, is) refl
    | inr e ↦ let is : list_any (same (f n)) (map f xs) ≡ false = told_any xs n each p ∙ e in rw (e, is) (sym (map-append f xs (n ∷ [])))
  ]

  pub told_after : (order xs : List ℕ) → Each P order → Each P xs → numbered_after same (map f order) (map f xs) ≡ map f (numbered_after nat_eq order xs)
  unfolding numbered_after
  told_after order [] a b = refl
  told_after order (x ∷ xs) a b =
      ap (λ l. numbered_after same l (map f xs)) (told_with order x a b.0) ∙ told_after (numbered_with nat_eq order x) xs (each_with P order x a b.0) b.1

  told_place : (i : ℕ) (xs : List ℕ) (n : ℕ) → Each P xs → P n → position_from (same (f n)) i (map f xs) ≡ position_from (nat_eq n) i xs
  told_place i [] n each p = refl
  told_place i (x ∷ xs) n each p = rw (told_same n x p each.0, told_place (i + 1) xs n each.1 p) refl

  pub told_number : (xs : List ℕ) (n : ℕ) → Each P xs → P n → number_in same (map f xs) (f n) ≡ number_in nat_eq xs n
  unfolding number_in
  told_number xs n each p = ap (λ (o : Option ℕ). unwrap_or o 0) (told_place 1 xs n each p)

-- the number of what may be told of
pub told_or_zero : {A : Type 0} (count : ℕ) (f : ℕ → A) (same : A → A → Bool) → IsExact same
    → ((m n : ℕ) → IsNumber count m → IsNumber count n → f m ≡ f n → m ≡ n)
    → (xs : List ℕ) (n : ℕ) → Each (IsNumber count) xs → n ≤ count → number_or_zero same (map f xs) (at_number f n) ≡ number_in nat_eq xs n
told_or_zero count f same exact apart xs zero each within = sym (not_zero xs (λ i less. (at_each (IsNumber count) xs each i less).some))
told_or_zero count f same exact apart xs (suc i) each within =
    told_number (IsNumber count) f same exact apart xs (suc i) each (record { some = omega arith; within = within })
