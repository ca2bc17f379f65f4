use Rattle.archive_records.proofs.Inputs.{operations_no_fault}
use Rattle.laws_archive.proofs.text_laws.operations_have_no_fault.Goals as goal

pub returns : goal.returns
returns c = operations_no_fault
