use Rattle.archive_core.proofs.Taken.{grown}
use Rattle.laws_archive.proofs.content_laws.new_admissions_are_added.Goals as goal

pub returns : goal.returns
returns c = grown
