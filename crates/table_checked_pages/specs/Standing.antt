-- The offsets of bytes within stored bytes.
use Rattle.std.specs.Prelude.{◌≡◌, ◌+◌, ◌≤◌, ℕ, List, length, take, drop}

-- these bytes are a part of others, from an offset on
abbrev pub Stands : List ℕ → ℕ → List ℕ → Type 0
Stands all offset part = (offset + length part ≤ length all) × (take (length part) (drop offset all) ≡ part)

-- these bytes are the rest of others, from an offset on
abbrev pub IsRestFrom : List ℕ → ℕ → List ℕ → Type 0
IsRestFrom all offset part = (offset ≤ length all) × (drop offset all ≡ part)
