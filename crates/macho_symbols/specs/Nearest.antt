-- The nearest candidate of an address.
use Rattle.std.specs.Prelude.{ℕ, Bool, true, List, ◌≡◌, ◌≢◌, ◌&&◌, nat_le, Option, MatchOption, Contains}
use Rattle.std.specs.Ordering.{ordering_then, nat_cmp, bool_cmp}
use Rattle.std.specs.declared.cmp.Ordering.{Ordering}
use Rattle.std.specs.declared.cmp.Ordering.TheVariants.{Less}
use Rattle.std.specs.Cmp.Lexicographic.{slice_cmp}
use Rattle.macho_symbols.specs.Symbols.{Tuple, candidates, is_in_section}

-- the order of candidates: by greater value, external before local, by lesser name, by lesser section
abbrev pub tuple_cmp : Tuple → Tuple → Ordering
tuple_cmp c d =
    ordering_then (nat_cmp d.value c.value)
    (ordering_then (bool_cmp d.external c.external)
    (ordering_then (slice_cmp nat_cmp c.name d.name) (nat_cmp c.sect d.sect)))

-- whether a candidate is eligible for an address: it is not above the address, and its section contains the address
unfoldable pub is_eligible : List ℕ → ℕ → Tuple → Bool
is_eligible image address c = nat_le c.value address && is_in_section image c.sect address

-- the first candidate in the order, among several
pub record IsFirst (among : Tuple → Type 0) (found : Tuple) : Type 0 where
  pub member : among found
  pub first : (other : Tuple) → among other → tuple_cmp other found ≢ Less

-- a candidate that is eligible for an address
abbrev pub IsEligible : List ℕ → ℕ → Tuple → Type 0
IsEligible image address c = Contains (candidates image) c × (is_eligible image address c ≡ true)

-- the nearest candidate of an address, or none
abbrev pub IsNearest : List ℕ → ℕ → Option Tuple → Type 0
IsNearest image address found =
    MatchOption found ((c : Tuple) → IsEligible image address c → ⊥) (IsFirst (IsEligible image address))
