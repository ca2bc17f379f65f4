use Rattle.index_format.proofs.MayHave.{may_have}
use Rattle.index_format.proofs.laws.index_may_have.Goals as goal

pub returns : goal.returns
returns c = may_have
