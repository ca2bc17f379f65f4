-- Lists that are filtered, put into another order, and joined.
use Rattle.std.proofs.Common.{◌≡◌, ◌≢◌, ℕ, zero, suc, ◌+◌, ◌<◌, Bool, true, false, cond, eqb, ◌&&◌, ◌||◌, List, [], ◌∷◌}
use Rattle.std.proofs.Common.{◌++◌, length, map, take, get_or, refl, sym, ap, ◌∙◌, inl, inr, arith}
use Rattle.std.specs.Prelude.{All, Contains, filter}
use Rattle.std.specs.List.{AllPairs, dedup, dedup_from, list_any, swap}
use Rattle.std.specs.List.Sorted.{IsPermutation}
use Rattle.std.proofs.lemmas.Bool.{cases_order}
use Rattle.std.proofs.lemmas.Bool.Decides.{nat_tests}
use Rattle.std.proofs.lemmas.List.Edits.{swapped_from_swap}
use Rattle.std.proofs.lemmas.List.Elements.{All-append, filter_more}
use Rattle.std.proofs.lemmas.List.{append-nil, get_or-map, length-map}
use Rattle.std.proofs.lemmas.List.Kept.{AllPairs-cons}
use Rattle.std.proofs.lemmas.List.Sorted.{IsPermutation-keeps, IsPermutation-swap, length_permutation}

-- ---- filtered

-- what passes both tests
pub filter_twice : {X : Type 0} (p q : X → Bool) (xs : List X) → filter q (filter p xs) ≡ filter (λ x. p x && q x) xs
filter_twice p q [] = refl
filter_twice p q (x ∷ xs) = grind (arith, filter_twice p q xs)

-- an element passes that is kept
pub any_filter : {X : Type 0} (p q : X → Bool) (xs : List X) → list_any q (filter p xs) ≡ list_any (λ x. p x && q x) xs
any_filter p q [] = refl
any_filter p q (x ∷ xs) = grind (arith, any_filter p q xs)

pub any_map : {X Y : Type 0} (p : Y → Bool) (f : X → Y) (xs : List X) → list_any p (map f xs) ≡ list_any (λ x. p (f x)) xs
any_map p f [] = refl
any_map p f (x ∷ xs) = ap (λ b. p (f x) || b) (any_map p f xs)

-- the tests of what is made of elements
pub dedup_map : {X Y : Type 0} (same : Y → Y → Bool) (f : X → Y) (xs : List X) → map f (dedup (λ x y. same (f x) (f y)) xs) ≡ dedup same (map f xs)
dedup_map same f [] = refl
dedup_map {X} {Y} same f (x ∷ xs) = from x xs
  where
    from : (k : X) (xs : List X) → map f (dedup_from (λ x y. same (f x) (f y)) k xs) ≡ dedup_from same (f k) (map f xs)
    from k [] = refl
    from k (x ∷ xs) = grind (arith, from k xs, from x xs)

-- what is made of an element that was read
module _ {X Y : Type 0} (f : X → Y) (xs : List X) (i : ℕ) (x : X) (lt : i < length xs) (is : x ≡ get_or xs i x) where
  pub map_within : i < length (map f xs)
  map_within = omega (arith, lt, length-map xs f)

  pub read_map : f x ≡ get_or (map f xs) i (f x)
  read_map = ap f is ∙ sym (get_or-map f xs i x (f x) lt)

  pub map_has : Contains (map f xs) (f x)
  map_has = (i, map_within, sym read_map)

-- one element more that does not pass, or does
pub filter_passed : {X : Type 0} (p : X → Bool) (xs : List X) (i : ℕ) (x : X) → i < length xs → x ≡ get_or xs i x → p x
    ≡ false → filter p (take (i + 1) xs) ≡ filter p (take i xs)
filter_passed p xs i x lt is other = grind (arith, filter_more p xs i x lt, append-nil)

pub filter_pushed : {X : Type 0} (p : X → Bool) (xs : List X) (i : ℕ) (x : X) → i < length xs → x ≡ get_or xs i x → p x
    ≡ true → filter p (take (i + 1) xs) ≡ filter p (take i xs) ++ x ∷ []
filter_pushed p xs i x lt is here = grind (arith, filter_more p xs i x lt)

-- ---- pairs

pub pairs_head : {X : Type 0} (R : X → X → Type 0) (x : X) (xs : List X) → AllPairs R (x ∷ xs) → All (R x) xs
pairs_head R x xs h = λ k d lt. h zero (suc k) d (omega arith) (omega (arith, lt))

pub pairs_tail : {X : Type 0} (R : X → X → Type 0) (x : X) (xs : List X) → AllPairs R (x ∷ xs) → AllPairs R xs
pairs_tail R x xs h = λ i j d lt le. h (suc i) (suc j) d (omega (arith, lt)) (omega (arith, le))

-- the second is left out
pub pairs_skip : {X : Type 0} (R : X → X → Type 0) (k x : X) (xs : List X) → AllPairs R (k ∷ (x ∷ xs)) → AllPairs R (k ∷ xs)
pairs_skip R k x xs h =
    AllPairs-cons R k xs (λ i d lt. h zero (suc (suc i)) d (omega arith) (omega (arith, lt))) (pairs_tail R x xs (pairs_tail R k (x ∷ xs) h))

pub pairs_append : {X : Type 0} (R : X → X → Type 0) (xs ys : List X) → AllPairs R xs → AllPairs R ys → All (λ x. All (R x) ys) xs → AllPairs R (xs ++ ys)
pairs_append R [] ys a b c = b
pairs_append R (x ∷ xs) ys a b c =
    AllPairs-cons R x (xs ++ ys) (All-append (R x) xs ys (pairs_head R x xs a) (c zero x (omega arith)))
    (pairs_append R xs ys (pairs_tail R x xs a) b (λ k d lt. c (suc k) d (omega (arith, lt))))

-- ---- in another order

-- where an element of a list with two swapped stood
abbrev from : ℕ → ℕ → ℕ → ℕ
from a b k = cond (eqb k a) b (cond (eqb k b) a k)

other_from : (a b i j : ℕ) → i < j → from a b i ≢ from a b j
other_from a b i j lt e = grind (arith, nat_tests)

from_within : (a b k n : ℕ) → a < n → b < n → k < n → from a b k < n
from_within a b k n la lb lk = grind (arith, nat_tests)

stood : {X : Type 0} (xs : List X) (a b k : ℕ) (d : X) → a < length xs → b < length xs → get_or (swap xs a b) k d ≡ get_or xs (from a b k) d
stood xs a b k d la lb = let s = swapped_from_swap xs (swap xs a b) a b d la lb refl in grind (arith, nat_tests)

module _ {X : Type 0} (R : X → X → Type 0) (both : (x y : X) → R x y → R y x) where
  apart : (xs : List X) (i j : ℕ) (d : X) → AllPairs R xs → i ≢ j → i < length xs → j < length xs → R (get_or xs i d) (get_or xs j d)
  apart xs i j d h ne li lj = elim (cases_order i j) [
    | inl e ↦ absurd (ne e)
    | inr (inl lt) ↦ h i j d lt lj
    | inr (inr gt) ↦ both (get_or xs j d) (get_or xs i d) (h j i d gt li)
  ]

  swapped : (xs : List X) (a b : ℕ) → a < length xs → b < length xs → AllPairs R xs → AllPairs R (swap xs a b)
  swapped xs a b la lb h = λ i j d lt lj.
      let long : length (swap xs a b) ≡ length xs = length_permutation xs (swap xs a b) (IsPermutation-swap xs (swap xs a b) a b la lb refl) in
      let within : j < length xs = omega (arith, lj, long) in
      rw (stood xs a b i d la lb, stood xs a b j d la lb)
      (apart xs (from a b i) (from a b j) d h (other_from a b i j lt)
      (from_within a b i (length xs) la lb (omega (arith, lt, within)))
      (from_within a b j (length xs) la lb within))

  -- what holds of each two elements, in whatever order they stand
  pub pairs_permutation : (xs ys : List X) → IsPermutation xs ys → AllPairs R xs → AllPairs R ys
  pairs_permutation xs ys moved h = IsPermutation-keeps xs (AllPairs R) h swapped ys moved
