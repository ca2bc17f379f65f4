use Rattle.std.proofs.Common.{◌≡◌, map, take}
use Rattle.archive_core.specs.Lookup.{own_row}
use Rattle.index_lookup.specs.Views.{row_at}
use Rattle.index_lookup.proofs.answers.rows_at.Given as goal

abbrev pub invariant-columns : goal.invariant-columns
invariant-columns l = map own_row l.rows.items ≡ map (row_at l.number) (take l.column-index l.columns)
