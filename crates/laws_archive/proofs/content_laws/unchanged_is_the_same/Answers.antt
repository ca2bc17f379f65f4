use Rattle.archive_core.proofs.Taken.{unchanged_same}
use Rattle.laws_archive.proofs.content_laws.unchanged_is_the_same.Goals as goal

pub returns : goal.returns
returns c = unchanged_same
