-- The row of the line number table that covers an address (DWARF 5, section 6.2.2): a row covers the addresses from its
-- own on that are below the address of the next row of its sequence.
use Rattle.std.specs.Prelude.{ℕ, List, ◌≡◌, ◌+◌, ◌<◌, ◌≤◌, false, length, slice_get, slice_index, slice_index_or}
use Rattle.std.specs.Prelude.{Option, Some, None, MatchOption}
use Rattle.dwarf_lines.specs.declared.registers.Row.{Row}

-- the row at this index covers the address
pub record CoversAt (rows : List Row) (address : ℕ) (index : ℕ) (row : Row) : Type 0 where
  pub stands : slice_get rows index ≡ Some row
  pub inside : row.end_sequence ≡ false
  pub above : row.registers.address ≤ address
  pub next : Row
  pub followed : slice_get rows (index + 1) ≡ Some next
  pub below : address < next.registers.address

-- the first row that covers the address, or none if none does
abbrev pub IsCovering : List Row → ℕ → Option Row → Type 0
IsCovering rows address found =
    MatchOption found
    ((index : ℕ) (row : Row) → CoversAt rows address index row → ⊥)
    (λ row. (index : ℕ) × CoversAt rows address index row
    × ((before : ℕ) (other : Row) → before < index → CoversAt rows address before other → ⊥))

-- each address has the first row that covers it, or none
pub record AreCovering (rows : List Row) (addresses : List ℕ) (found : List (Option Row)) : Type 0 where
  pub len : length found ≡ length addresses
  pub each : (i : ℕ) → i < length addresses → IsCovering rows (slice_index addresses i) (slice_index_or found i None)
