-- The offsets of the NULs of a string table.
use Rattle.std.specs.Prelude.{ℕ, List, ◌≡◌, ◌+◌, ◌*◌, ◌<◌, ◌≤◌, ◌==◌, length, drop, slice_index}
use Rattle.std.specs.List.{before_first}

-- the offset of the first NUL at or after an offset, or the size of the table if there is none
abbrev pub nul_from : List ℕ → ℕ → ℕ
nul_from strings index = index + length (before_first (λ b. b == 0) (drop index strings))

-- for each 4096 bytes of a string table, the offset of the first NUL at or after their beginning
pub record AreNulPlaces (strings places : List ℕ) : Type 0 where
  pub all : length strings ≤ 4096 * length places
  pub each : (block : ℕ) → block < length places → slice_index places block ≡ nul_from strings (4096 * block)
