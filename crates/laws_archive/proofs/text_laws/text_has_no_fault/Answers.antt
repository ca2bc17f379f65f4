use Rattle.archive_records.proofs.Versions.{written_no_fault, old_no_fault}
use Rattle.laws_archive.proofs.text_laws.text_has_no_fault.Goals as goal

pub returns : goal.returns
returns c = record { written = written_no_fault; old = old_no_fault }
