-- Little-endian numbers.
use Rattle.std.specs.Prelude.{ℕ, List, drop}
use Rattle.byteorder.specs.Endian.{little_number}

-- the number in the two bytes from an offset
unfoldable pub u16_le_at : List ℕ → ℕ → ℕ
u16_le_at bytes offset = little_number 2 (drop offset bytes)

-- the number in the four bytes from an offset
unfoldable pub u32_le_at : List ℕ → ℕ → ℕ
u32_le_at bytes offset = little_number 4 (drop offset bytes)

-- the number in the eight bytes from an offset
unfoldable pub u64_le_at : List ℕ → ℕ → ℕ
u64_le_at bytes offset = little_number 8 (drop offset bytes)
