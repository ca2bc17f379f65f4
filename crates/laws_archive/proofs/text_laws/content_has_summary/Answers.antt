use Rattle.archive_records.proofs.Summarised.{AreEntries-summary}
use Rattle.laws_archive.proofs.text_laws.content_has_summary.Goals as goal

pub returns : goal.returns
returns c = AreEntries-summary
