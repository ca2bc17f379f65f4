use Rattle.cli_arguments.proofs.OnWords.{each_asks}
use Rattle.cli_arguments.proofs.laws.each_command_is_asked_for.Goals as goal

pub returns-clause-asked : goal.returns-clause-asked
returns-clause-asked c = each_asks
