use Rattle.index_lookup.proofs.EachTold.{answer_each, told_each}
use Rattle.index_lookup.proofs.laws.each_told.Goals as goal

pub returns-clause-told : goal.returns-clause-told
returns-clause-told c = told_each

pub returns-clause-answer : goal.returns-clause-answer
returns-clause-answer c = answer_each
