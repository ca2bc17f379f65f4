-- The rows of a table by their starts, and the row for an address.
use Rattle.std.specs.Prelude.{◌≡◌, ◌<◌, ◌≤◌, ℕ, List, length, slice_index_or, slice_get, Option, Some, MatchOption}
use Rattle.macho_symbols.specs.declared.row.Row.{Row}

-- the starts ascend
abbrev pub AreRising : List Row → Type 0
AreRising rows = (i j : ℕ) (d : Row) → i < j → j < length rows
    → (slice_index_or rows i d).start < (slice_index_or rows j d).start

-- a row is the last that begins at or below an address
pub record IsLastNotAbove (rows : List Row) (address : ℕ) (row : Row) : Type 0 where
  pub at : ℕ
  pub stands : slice_get rows at ≡ Some row
  pub not_above : row.start ≤ address
  pub others : (j : ℕ) (d : Row) → at < j → j < length rows → address < (slice_index_or rows j d).start

-- every row begins above an address
abbrev pub AreAbove : List Row → ℕ → Type 0
AreAbove rows address = (j : ℕ) (d : Row) → j < length rows → address < (slice_index_or rows j d).start

-- the row for an address, or none
abbrev pub IsRowFor : List Row → ℕ → Option Row → Type 0
IsRowFor rows address found = MatchOption found (AreAbove rows address) (IsLastNotAbove rows address)
