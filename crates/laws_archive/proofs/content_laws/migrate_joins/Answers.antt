use Rattle.archive_core.proofs.Made.{joined_made}
use Rattle.laws_archive.proofs.content_laws.migrate_joins.Goals as goal

pub returns : goal.returns
returns c = joined_made
