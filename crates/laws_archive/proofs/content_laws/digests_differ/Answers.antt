use Rattle.archive_core.proofs.Summaries.{told_by_digests}
use Rattle.laws_archive.proofs.content_laws.digests_differ.Goals as goal

pub returns : goal.returns
returns c = told_by_digests
