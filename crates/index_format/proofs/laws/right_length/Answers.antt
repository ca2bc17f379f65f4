use Rattle.index_format.proofs.Sums.{right_length}
use Rattle.index_format.proofs.laws.right_length.Goals as goal

pub returns : goal.returns
returns c = right_length
