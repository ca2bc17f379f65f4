use Rattle.archive_exchange.proofs.Gained.{events_are, one_list}
use Rattle.archive_exchange.proofs.laws.one_meaning.Goals as goal

pub returns-clause-some : goal.returns-clause-some
returns-clause-some c = events_are c.one_take_fault.ensures.some

pub returns-clause-one : goal.returns-clause-one
returns-clause-one c = one_list c.one_take_fault.ensures.one c.one_take_fault.ensures.none
