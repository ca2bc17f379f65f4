use Rattle.cli_arguments.proofs.Exactly.{accepted_if_faultless, faultless_if_accepted}
use Rattle.cli_arguments.proofs.laws.accepted_exactly.Goals as goal

pub returns : goal.returns
returns c = λ words. (accepted_if_faultless words, faultless_if_accepted words)
