use Rattle.macho_symbols.proofs.StepLemmas.{by_step}
use Rattle.table_symbols.proofs.laws.nearest_by_step.Goals as goal

pub returns : goal.returns
returns c = by_step
