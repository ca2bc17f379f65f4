use Rattle.archive_core.proofs.Answering.{counted}
use Rattle.laws_archive.proofs.content_laws.rows_count_answering.Goals as goal

pub returns : goal.returns
returns c = counted
