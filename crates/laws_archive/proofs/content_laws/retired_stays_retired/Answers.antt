use Rattle.archive_core.proofs.Taken.{never_live_again}
use Rattle.laws_archive.proofs.content_laws.retired_stays_retired.Goals as goal

pub returns : goal.returns
returns c = never_live_again
