use Rattle.table_symbols.proofs.OneSteps.{one_text}
use Rattle.table_symbols.proofs.laws.one_text.Goals as goal

pub returns : goal.returns
returns c = one_text
