-- A table that was opened.
use Rattle.std.specs.Prelude.{◌≡◌, ◌+◌, ◌*◌, ◌≤◌, ℕ, List, length, take, drop}
use Rattle.std.specs.Int.{w64, from_be_bytes}
use Rattle.table_checked_pages.specs.Views.{ArePagesOf}
use Rattle.table_symbols.specs.Table.{FitsTable, TableParts, table_bytes}
use Rattle.table_symbols.specs.declared.head.Head.{Head}
use Rattle.table_symbols.specs.declared.table.Table.{Table}

-- the fields of a head are those of a table
pub record IsHeadOf (head : Head) (t : TableParts) : Type 0 where
  pub base : head.base ≡ t.base
  pub sections : head.sections ≡ length t.names
  pub rows : head.rows ≡ length t.rows
  pub strings : head.strings ≡ length t.strings
  pub lines : head.lines ≡ length t.lines

-- the number in the eight bytes from an offset on
abbrev pub u64_at : List ℕ → ℕ → ℕ
u64_at all offset = from_be_bytes w64 (take 8 (drop offset all))

-- a head has the counts of these bytes
pub record HasCounts (head : Head) (bytes : List ℕ) : Type 0 where
  pub sections : head.sections ≡ u64_at bytes 16
  pub rows : head.rows ≡ u64_at bytes 24
  pub strings : head.strings ≡ u64_at bytes 32
  pub lines : head.lines ≡ u64_at bytes 40

-- The bytes begin with the head of a table, and their number is the one that this head states.
pub record AreHeaded (all : List ℕ) : Type 0 where
  pub has_head : 48 ≤ length all
  pub size : length all
      ≡ 48 + 32 * u64_at all 16 + 21 * u64_at all 24 + u64_at all 32 + u64_at all 40

-- the offset of the strings in these bytes, by their head, and that of the lines after them
abbrev pub strings_at : List ℕ → ℕ
strings_at all = 48 + 32 * u64_at all 16 + 21 * u64_at all 24

abbrev pub lines_at : List ℕ → ℕ
lines_at all = 48 + 32 * u64_at all 16 + 21 * u64_at all 24 + u64_at all 32

-- The table was opened in a text where any bytes may be stored, whether or not they are a table: they have a head, and
-- the table has its counts.
pub record IsOpenedIn (table : Table) (text all : List ℕ) : Type 0 where
  pub headed : AreHeaded all
  pub counts : HasCounts table.head all
  pub pages : ArePagesOf table.pages text all

-- As far as SHA-256 decides, the table is stored in the text, and its parts have the offsets that its head states.
pub record IsOpened (table : Table) (text : List ℕ) (t : TableParts) : Type 0 where
  pub fits : FitsTable t
  pub pages : ArePagesOf table.pages text (table_bytes t)
  pub head : IsHeadOf table.head t
