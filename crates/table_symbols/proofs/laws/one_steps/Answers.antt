use Rattle.table_symbols.proofs.OneSteps.{steps_once}
use Rattle.table_symbols.proofs.laws.one_steps.Goals as goal

pub returns : goal.returns
returns c = steps_once
