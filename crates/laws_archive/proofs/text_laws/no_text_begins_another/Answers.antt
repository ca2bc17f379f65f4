use Rattle.archive_records.proofs.Versions.{no_text_begins}
use Rattle.laws_archive.proofs.text_laws.no_text_begins_another.Goals as goal

pub returns : goal.returns
returns c = no_text_begins
