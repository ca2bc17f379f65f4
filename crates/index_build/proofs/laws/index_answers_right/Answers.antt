use Rattle.index_build.proofs.Contents.{has_table, told}
use Rattle.index_build.proofs.laws.index_answers_right.Goals as goal

pub returns : goal.returns
returns c = record { table = has_table; told = told }
