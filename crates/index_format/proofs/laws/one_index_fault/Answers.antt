use Rattle.index_format.proofs.Decided.{decided}
use Rattle.index_format.proofs.Faults.{no_fault, one_fault, one_list}
use Rattle.index_format.proofs.laws.one_index_fault.Goals as goal

pub returns-clause-either : goal.returns-clause-either
returns-clause-either c = decided

pub returns-clause-one : goal.returns-clause-one
returns-clause-one c = one_fault

pub returns-clause-none : goal.returns-clause-none
returns-clause-none c = no_fault

pub returns-clause-alone : goal.returns-clause-alone
returns-clause-alone c = one_list
