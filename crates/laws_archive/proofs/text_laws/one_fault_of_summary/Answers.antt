use Rattle.archive_records.specs.declared.format.Format.TheVariants.{Summary}
use Rattle.archive_records.proofs.Exact.{one_fault}
use Rattle.laws_archive.proofs.text_laws.one_fault_of_summary.Goals as goal

pub returns : goal.returns
returns c = one_fault Summary
