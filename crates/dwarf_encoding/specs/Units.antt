-- Units that follow one another in a section (DWARF 5, sections 7.2.2, 6.1.2, 6.2.4 and 7.5.1).
use Rattle.std.specs.Prelude.{ℕ, List, Bool, ◌≡◌, ◌<◌, ◌≤◌, ◌+◌, ◌==◌, ◌&&◌, length, nat_le, nat_lt, if◌then◌else◌}
use Rattle.std.specs.Prelude.{Option, Some, None, MatchOption}
use Rattle.std.specs.Option.{option_and_then}
use Rattle.dwarf_encoding.specs.Forms.{split_at}
use Rattle.dwarf_encoding.specs.LittleEndian.{u32_le_at, u64_le_at}
use Rattle.dwarf_encoding.specs.Sequences.{placed, item_at}

-- whether a unit is in the 64-bit format (section 7.4)
abbrev pub is_64_bit : List ℕ → Bool
is_64_bit unit = u32_le_at unit 0 == 0xffffffff

-- the size of the initial length that begins the bytes, and the number of bytes of the unit after it; in the 64-bit
-- format eight bytes of length follow 0xffffffff, and the numbers from 0xfffffff0 to 0xfffffffe are reserved (section
-- 7.4)
unfoldable pub initial_length : List ℕ → Option (ℕ × ℕ)
initial_length bytes =
    if nat_lt (length bytes) 4 then None
    else if nat_lt (u32_le_at bytes 0) 0xfffffff0 then Some (4, u32_le_at bytes 0)
    else if is_64_bit bytes && nat_le 12 (length bytes) then Some (12, u64_le_at bytes 4)
    else None

-- the unit that begins the bytes, with its initial length, and the bytes after it
unfoldable pub unit_at : List ℕ → Option (List ℕ × List ℕ)
unit_at bytes = option_and_then (λ l. split_at (l.0 + l.1) bytes) (initial_length bytes)

-- the unit at an offset of a section, if one of the section's consecutive units begins there
abbrev pub unit_of : List ℕ → ℕ → Option (List ℕ)
unit_of section offset = item_at offset (placed unit_at section)

-- the last unit that begins at or before an offset
pub record BeginsBefore (section : List ℕ) (offset place : ℕ) (unit : List ℕ) : Type 0 where
  pub stands : unit_of section place ≡ Some unit
  pub before : place ≤ offset
  pub last : (other : ℕ) → place < other → other ≤ offset → unit_of section other ≡ None

-- the unit that contains the byte at an offset, with its own offset, or none
abbrev pub IsUnitWith : List ℕ → ℕ → Option (ℕ × List ℕ) → Type 0
IsUnitWith section offset found =
    MatchOption found
    ((place : ℕ) (unit : List ℕ) → BeginsBefore section offset place unit → offset < place + length unit → ⊥)
    (λ x. BeginsBefore section offset x.0 x.1 × (offset < x.0 + length x.1))
