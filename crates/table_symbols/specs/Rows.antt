-- The rows of a table as it stores them.
use Rattle.std.specs.Prelude.{◌<◌, ◌^◌, ℕ, List, [], ◌∷◌, ◌++◌}
use Rattle.std.specs.Prelude.{flat_map, All}
use Rattle.std.specs.Int.{w32, w64, to_be_bytes}
use Rattle.macho_symbols.specs.Rows.{AreRising}
use Rattle.macho_symbols.specs.declared.row.Row.{Row}

-- the 21 bytes of a row in a table
unfoldable pub row_bytes : Row → List ℕ
row_bytes r =
    to_be_bytes w64 r.start ++ (to_be_bytes w64 r.value ++ (to_be_bytes w32 r.n_strx ++ (r.sect ∷ [])))

-- the bytes of rows in a table
abbrev pub rows_bytes : List Row → List ℕ
rows_bytes rows = flat_map row_bytes rows

-- a row whose numbers fit their sizes
pub record IsRow (r : Row) : Type 0 where
  pub start : r.start < 2 ^ 64
  pub value : r.value < 2 ^ 64
  pub n_strx : r.n_strx < 2 ^ 32
  pub sect : r.sect < 2 ^ 8

-- the rows of a table
pub record AreRows (rows : List Row) : Type 0 where
  pub each : All IsRow rows
  pub rising : AreRising rows
