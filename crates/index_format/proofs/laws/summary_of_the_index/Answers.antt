use Rattle.index_format.proofs.Summarised.{summary_of_index}
use Rattle.index_format.proofs.laws.summary_of_the_index.Goals as goal

pub returns : goal.returns
returns c = summary_of_index
