use Rattle.index_build.proofs.Accepted.{accepted}
use Rattle.index_build.proofs.laws.accepted.Goals as goal

pub returns : goal.returns
returns c = accepted
