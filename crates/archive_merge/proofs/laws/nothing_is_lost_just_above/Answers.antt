use Rattle.archive_merge.proofs.Rises.{rises}
use Rattle.archive_merge.proofs.laws.nothing_is_lost_just_above.Goals as goal

pub returns : goal.returns
returns c = rises
