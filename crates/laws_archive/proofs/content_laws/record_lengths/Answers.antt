use Rattle.archive_core.proofs.Records.{length-admission_record, length-retirement_record}
use Rattle.laws_archive.proofs.content_laws.record_lengths.Goals as goal

pub returns : goal.returns
returns c = record { admission = length-admission_record; retirement = length-retirement_record }
