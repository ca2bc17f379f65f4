use Rattle.std.proofs.Common.{◌≡◌, ◌++◌, take}
use Rattle.std.specs.Prelude.{All}
use Rattle.table_symbols.specs.Rows.{IsRow, rows_bytes}
use Rattle.table_symbols.proofs.text.push_rows.Given as goal

abbrev pub invariant-loop-row : goal.invariant-loop-row
invariant-loop-row l = record {
  fit : All IsRow (take l.row-index l.rows);
  pushed : l.text.items ≡ l.fn.text.items ++ rows_bytes (take l.row-index l.rows);
}
