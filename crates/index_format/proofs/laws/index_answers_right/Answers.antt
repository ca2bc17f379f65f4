use Rattle.index_format.proofs.Named.{right}
use Rattle.index_format.proofs.laws.index_answers_right.Goals as goal

pub returns : goal.returns
returns c = right
