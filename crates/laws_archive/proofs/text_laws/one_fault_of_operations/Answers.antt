use Rattle.archive_records.specs.declared.format.Format.TheVariants.{Operations}
use Rattle.archive_records.proofs.Exact.{one_fault}
use Rattle.laws_archive.proofs.text_laws.one_fault_of_operations.Goals as goal

pub returns : goal.returns
returns c = one_fault Operations
