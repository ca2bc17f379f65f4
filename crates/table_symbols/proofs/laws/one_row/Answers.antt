use Rattle.table_symbols.proofs.RowLemmas.{only_row}
use Rattle.table_symbols.proofs.laws.one_row.Goals as goal

pub returns : goal.returns
returns c = only_row
