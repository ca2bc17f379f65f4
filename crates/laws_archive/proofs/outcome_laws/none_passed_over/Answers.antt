use Rattle.command_archives.proofs.Passing.{as_admitted, as_passing}
use Rattle.laws_archive.proofs.outcome_laws.none_passed_over.Goals as goal

pub returns-clause-done : goal.returns-clause-done
returns-clause-done g c = as_admitted

pub returns-clause-accepted : goal.returns-clause-accepted
returns-clause-accepted g c = as_passing
