use Rattle.table_symbols.proofs.RowLemmas.{only_rows}
use Rattle.table_symbols.proofs.laws.one_table.Goals as goal

pub returns : goal.returns
returns c = λ rows others are others_are same. only_rows rows others are.each others_are.each same
