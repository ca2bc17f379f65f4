-- Numbers that rise: two lists of the same ones are one.
use Rattle.std.proofs.Common.{◌≡◌, ℕ, zero, suc, ◌<◌, List, [], ◌∷◌, length, get_or, refl, sym, inl, inr, arith, Contains, ◌⊎◌}
use Rattle.dwarf_asked_addresses.specs.Rising.{AreRising}

pub rising_rest : (x : ℕ) (xs : List ℕ) → AreRising (x ∷ xs) → AreRising xs
rising_rest x xs rising i j d l m = rising (suc i) (suc j) d (omega arith) (omega arith)

-- the first one is below the others
pub first_below : (x : ℕ) (xs : List ℕ) → AreRising (x ∷ xs) → (a : ℕ) → Contains xs a → x < a
first_below x xs rising a h = omega (arith, rising 0 (suc h.0) a (omega arith) (omega (arith, h.1)), h.2)

-- a member is the first one, or after it
pub first_or_rest : (x : ℕ) (xs : List ℕ) (a : ℕ) → Contains (x ∷ xs) a → (x ≡ a) ⊎ Contains xs a
first_or_rest x xs a h = at_place h.0 h.1 h.2
  where
    at_place : (k : ℕ) → k < suc (length xs) → get_or (x ∷ xs) k a ≡ a → (x ≡ a) ⊎ Contains xs a
    at_place zero l e = inl e
    at_place (suc k) l e = inr (k, omega arith, e)

pub first_is : (x : ℕ) (xs : List ℕ) → Contains (x ∷ xs) x
first_is x xs = (0, omega arith, refl)

pub rest_is : (x : ℕ) (xs : List ℕ) (a : ℕ) → Contains xs a → Contains (x ∷ xs) a
rest_is x xs a h = (suc h.0, omega (arith, h.1), h.2)

-- two rising lists of the same numbers have the same first one
same_first : (x y : ℕ) (xs ys : List ℕ) → AreRising (x ∷ xs) → AreRising (y ∷ ys) → Contains (y ∷ ys) x → Contains (x ∷ xs) y → x ≡ y
same_first x y xs ys r s h k = elim (first_or_rest y ys x h) [
  | inl e ↦ sym e
  | inr m ↦ elim (first_or_rest x xs y k) [
    | inl e ↦ e
    | inr n ↦ absurd (omega (arith, first_below y ys s x m, first_below x xs r y n))
  ]
]

-- what is after the first one of the one is after that of the other
same_rest : (x y : ℕ) (xs ys : List ℕ) → AreRising (x ∷ xs) → x ≡ y → (a : ℕ) → Contains xs a → Contains (y ∷ ys) a → Contains ys a
same_rest x y xs ys r e a h k = elim (first_or_rest y ys a k) [
  | inl m ↦ absurd (omega (arith, first_below x xs r a h, e, m))
  | inr m ↦ m
]

pub one_rising : (xs ys : List ℕ) → AreRising xs → AreRising ys → ((a : ℕ) → Contains xs a → Contains ys a)
    → ((a : ℕ) → Contains ys a → Contains xs a) → xs ≡ ys
one_rising [] [] r s to from = refl
one_rising [] (y ∷ ys) r s to from = let h = from y (first_is y ys) in absurd (omega (arith, h.1))
one_rising (x ∷ xs) [] r s to from = let h = to x (first_is x xs) in absurd (omega (arith, h.1))
one_rising (x ∷ xs) (y ∷ ys) r s to from =
    let e : x ≡ y = same_first x y xs ys r s (to x (first_is x xs)) (from y (first_is y ys)) in
    let rest : xs ≡ ys = one_rising xs ys (rising_rest x xs r) (rising_rest y ys s)
    (λ a h. same_rest x y xs ys r e a h (to a (rest_is x xs a h)))
    (λ a h. same_rest y x ys xs s (sym e) a h (from a (rest_is y ys a h))) in
    λ i. e i ∷ rest i
