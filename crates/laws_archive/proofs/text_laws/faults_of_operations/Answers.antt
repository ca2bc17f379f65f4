use Rattle.archive_records.proofs.FaultKinds.{operations_faults}
use Rattle.laws_archive.proofs.text_laws.faults_of_operations.Goals as goal

pub returns : goal.returns
returns c = operations_faults
