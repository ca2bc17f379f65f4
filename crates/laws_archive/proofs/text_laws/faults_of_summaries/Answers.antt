use Rattle.archive_records.proofs.FaultKinds.{never_large, never_slice, never_key}
use Rattle.laws_archive.proofs.text_laws.faults_of_summaries.Goals as goal

pub returns : goal.returns
returns c = record { large = never_large; slice = never_slice; key = never_key }
