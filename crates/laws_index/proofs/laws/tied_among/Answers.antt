use Rattle.laws_index.proofs.IndexesAreRight.{tied}
use Rattle.laws_index.proofs.laws.tied_among.Goals as goal

pub returns : goal.returns
returns c os texts indexes key all is_key t = tied os texts indexes all key is_key t
