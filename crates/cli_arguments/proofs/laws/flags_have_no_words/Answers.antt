use Rattle.cli_arguments.proofs.Flags.{flag_told, no_path}
use Rattle.cli_arguments.proofs.laws.flags_have_no_words.Goals as goal

pub returns-clause-told : goal.returns-clause-told
returns-clause-told c = flag_told

pub returns-clause-paths : goal.returns-clause-paths
returns-clause-paths c = no_path
