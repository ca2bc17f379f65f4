use Rattle.laws_archive.proofs.Joins.{merged_is}
use Rattle.laws_archive.proofs.Least.{above_input, above_each, least_merged}
use Rattle.laws_archive.proofs.outcome_laws.merged_is_least.Goals as goal

pub returns : goal.returns
returns c = record {
  content = merged_is;
  input = λ o contents _ _. above_input o contents;
  each = λ o contents p _ _. above_each o contents p;
  least = λ o contents q _ _ _. least_merged o contents q;
}
