-- Bytes that are read from an offset of a device, if its bytes are known.
use Rattle.std.specs.Prelude.{◌≡◌, ◌≤◌, ◌<◌, ℕ, List, length, take, drop, Option, Some, None, IfSome}

-- The first n bytes of the buffer are those from the offset; n is 0 only at or past the end, or for an empty buffer.
pub record Takes (all : List ℕ) (at n : ℕ) (buf : List ℕ) : Type 0 where
  pub bytes : take n buf ≡ take n (drop at all)
  pub at_end : n ≡ 0 → 0 < length buf → length all ≤ at

-- the same if the bytes are known
abbrev pub TakenAt : Option (List ℕ) → ℕ → ℕ → List ℕ → Type 0
TakenAt None at n buf = Unit {0}
TakenAt (Some all) at n buf = Takes all at n buf

-- these bytes are at this offset
abbrev pub Stands : Option (List ℕ) → ℕ → List ℕ → Type 0
Stands whole at bytes = IfSome whole (λ all. take (length bytes) (drop at all) ≡ bytes)

-- there are fewer bytes
abbrev pub EndsBefore : Option (List ℕ) → ℕ → Type 0
EndsBefore whole end = IfSome whole (λ all. length all < end)

-- there is this number of bytes
abbrev pub HasSize : Option (List ℕ) → ℕ → Type 0
HasSize whole size = IfSome whole (λ all. length all ≡ size)
