use Rattle.table_source_frames.proofs.SliceTables.{table_of_symbols}
use Rattle.table_source_frames.proofs.laws.has_symbols.Goals as goal

pub returns : goal.returns
returns c = table_of_symbols
