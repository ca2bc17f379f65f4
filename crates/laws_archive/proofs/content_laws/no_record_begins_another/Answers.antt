use Rattle.archive_core.proofs.Records.{no_record_begins}
use Rattle.laws_archive.proofs.content_laws.no_record_begins_another.Goals as goal

pub returns : goal.returns
returns c = no_record_begins
