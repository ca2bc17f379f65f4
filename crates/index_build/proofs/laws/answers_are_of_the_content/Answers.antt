use Rattle.index_build.proofs.Accepted.{of_the_content, told_over}
use Rattle.index_build.proofs.laws.answers_are_of_the_content.Goals as goal

pub returns : goal.returns
returns c = record { entries = of_the_content; told = told_over }
