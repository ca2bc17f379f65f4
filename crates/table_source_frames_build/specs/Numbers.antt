-- Keys and their numbers, from 1 on.
use Rattle.std.specs.Prelude.{ℕ, suc, List, [], ◌∷◌, ◌++◌, ◌≡◌, ◌⊎◌, true, false, slice_get, Option, Some, MatchOption}
use Rattle.std.specs.Ordering.{is_eq}
use Rattle.std.specs.declared.cmp.Ordering.{Ordering}
use Rattle.std.specs.BTreeMap as tree_map

-- a map has the number of each key, and nothing else
pub record AreNumbered {K : Type 0} (cmp : K → K → Ordering) (map : tree_map.BTreeMap K ℕ) (keys : List K)
    : Type 0 where
  pub each : (i : ℕ) (key : K) → slice_get keys i ≡ Some key → tree_map.get cmp map key ≡ Some (suc i)
  pub found : (key : K) (number : ℕ) → tree_map.get cmp map key ≡ Some number
      → (i : ℕ) × (k : K) × (number ≡ suc i) × (slice_get keys i ≡ Some k) × (is_eq (cmp key k) ≡ true)

-- a key has this number among the new keys, which are the old keys, or the old keys and the key, if it was missing
pub record IsNumbered {K : Type 0} (cmp : K → K → Ordering) (old : List K) (key : K) (number : ℕ) (new : List K)
    : Type 0 where
  pub there : (i : ℕ) × (k : K) × (number ≡ suc i) × (slice_get new i ≡ Some k) × (is_eq (cmp key k) ≡ true)
  pub kept : (new ≡ old) ⊎ ((new ≡ old ++ key ∷ [])
      × ((i : ℕ) (k : K) → slice_get old i ≡ Some k → is_eq (cmp key k) ≡ false))

-- a key has this number among keys, or none
abbrev pub IsFoundIn : {K : Type 0} → (K → K → Ordering) → List K → K → Option ℕ → Type 0
IsFoundIn {K} cmp keys key found =
    MatchOption found ((i : ℕ) (k : K) → slice_get keys i ≡ Some k → is_eq (cmp key k) ≡ false)
    (λ number. (i : ℕ) × (k : K) × (number ≡ suc i) × (slice_get keys i ≡ Some k) × (is_eq (cmp key k) ≡ true))
