-- The table of a slice: its symbols, and its lines after them.
use Rattle.std.specs.Prelude.{ℕ, List}
use Rattle.table_source_frames.specs.LineTable.{IsLineTable, no_lines}
use Rattle.table_symbols.specs.Table.{IsTableWith}

-- these bytes are the table of a slice: the lines in it are the line table of the slice
pub record IsSliceTable (image bytes : List ℕ) : Type 0 where
  pub lines : List ℕ
  pub are_lines : IsLineTable image lines
  pub is_table : IsTableWith image lines bytes

-- the line table of a slice is the one without lines
abbrev pub HasNoLines : List ℕ → Type 0
HasNoLines image = IsLineTable image no_lines
