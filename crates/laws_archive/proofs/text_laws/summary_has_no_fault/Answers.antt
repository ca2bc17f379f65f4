use Rattle.archive_records.proofs.Inputs.{summary_no_fault}
use Rattle.laws_archive.proofs.text_laws.summary_has_no_fault.Goals as goal

pub returns : goal.returns
returns c = summary_no_fault
