use Rattle.index_format.proofs.Named.{of_the_index}
use Rattle.index_format.proofs.laws.answers_are_of_the_index.Goals as goal

pub returns : goal.returns
returns c = of_the_index
