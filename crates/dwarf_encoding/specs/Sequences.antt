-- Items that follow one another in bytes. `item` reads the item that begins the bytes, and returns it with the bytes
-- after it.
use Rattle.std.specs.Prelude.{ℕ, zero, suc, List, [], ◌∷◌, ◌≡◌, ◌<◌, ◌-◌, ◌==◌, length, if◌then◌else◌, Option, Some}
use Rattle.std.specs.Prelude.{None}
use Rattle.std.specs.Option.{option_map, option_map_or, option_and_then}

-- `count` items, and the bytes after them
unfoldable pub counted : {A : Type 0} → (List ℕ → Option (A × List ℕ)) → ℕ → List ℕ → Option (List A × List ℕ)
counted item zero bytes = Some ([], bytes)
counted item (suc count) bytes =
    option_and_then (λ x. option_map (λ y. (x.0 ∷ y.0, y.1)) (counted item count x.1)) (item bytes)

-- the items before the first that reads as None, which ends them, and the bytes after that one; None if it is not among
-- the first `count`
unfoldable pub ended_within :
    {A : Type 0} → (List ℕ → Option (Option A × List ℕ)) → ℕ → List ℕ → Option (List A × List ℕ)
ended_within item zero bytes = None
ended_within item (suc count) bytes =
    option_and_then
    (λ x. option_map_or (λ a. option_map (λ y. (a ∷ y.0, y.1)) (ended_within item count x.1)) x.0 (Some ([], x.1)))
    (item bytes)

-- the items before the first that reads as None, which ends them, and the bytes after that one; each item has at least
-- one byte
unfoldable pub ended : {A : Type 0} → (List ℕ → Option (Option A × List ℕ)) → List ℕ → Option (List A × List ℕ)
ended item bytes = ended_within item (length bytes) bytes

-- the items before the first that cannot be read, at most `count` of them
unfoldable pub sequence_within : {A : Type 0} → (List ℕ → Option (A × List ℕ)) → ℕ → List ℕ → List A
sequence_within item zero bytes = []
sequence_within item (suc count) bytes =
    option_map_or (λ x. x.0 ∷ sequence_within item count x.1) (item bytes) []

-- the items before the first that cannot be read; each item has at least one byte
unfoldable pub sequence : {A : Type 0} → (List ℕ → Option (A × List ℕ)) → List ℕ → List A
sequence item bytes = sequence_within item (length bytes) bytes

-- the items of the last bytes of a section of `size` bytes, before the first that cannot be read, each with its offset
-- in the section; at most `count` of them
unfoldable pub placed_within : {A : Type 0} → (List ℕ → Option (A × List ℕ)) → ℕ → ℕ → List ℕ → List (ℕ × A)
placed_within item zero size bytes = []
placed_within item (suc count) size bytes =
    option_map_or (λ x. (size - length bytes, x.0) ∷ placed_within item count size x.1) (item bytes) []

-- the items of the last bytes of a section of `size` bytes, each with its offset in the section; each item has at least
-- one byte
unfoldable pub placed_from : {A : Type 0} → (List ℕ → Option (A × List ℕ)) → ℕ → List ℕ → List (ℕ × A)
placed_from item size bytes = placed_within item (length bytes) size bytes

-- the items of a section, each with its offset
abbrev pub placed : {A : Type 0} → (List ℕ → Option (A × List ℕ)) → List ℕ → List (ℕ × A)
placed item section = placed_from item (length section) section

-- the item at an offset
abbrev pub item_at : {A : Type 0} → ℕ → List (ℕ × A) → Option A
item_at offset [] = None
item_at offset (x ∷ xs) = if offset == x.0 then Some x.1 else item_at offset xs

-- each item has at least one byte
pub record Shortens {A : Type 0} (item : List ℕ → Option (A × List ℕ)) : Type 0 where
  pub less : (bytes : List ℕ) (x : A × List ℕ) → item bytes ≡ Some x → length x.1 < length bytes
