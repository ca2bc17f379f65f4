use Rattle.archive_records.proofs.Inputs.{one_operations}
use Rattle.laws_archive.proofs.text_laws.one_list_of_operations.Goals as goal

pub returns : goal.returns
returns c = one_operations
