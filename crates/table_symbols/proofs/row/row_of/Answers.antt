use Rattle.std.proofs.Common.{refl}
use Rattle.table_symbols.proofs.RowLemmas.{read_row}
use Rattle.table_symbols.proofs.row.row_of.Goals as goal

pub returns : goal.returns
returns c = λ r is e. read_row c.args.bytes.now _ _ _ _ r is e c.u64_be_at.ensures c.u64_be_at-2.ensures c.u32_be_at.ensures refl
