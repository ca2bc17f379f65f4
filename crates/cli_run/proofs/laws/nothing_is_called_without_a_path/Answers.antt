use Rattle.cli_run.proofs.Pathless.{nothing_called}
use Rattle.cli_run.proofs.laws.nothing_is_called_without_a_path.Goals as goal

pub returns : goal.returns
returns g c = λ calls line report told notes is none. nothing_called calls line report told notes is none
