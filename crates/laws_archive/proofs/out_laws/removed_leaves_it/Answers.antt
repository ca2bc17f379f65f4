use Rattle.laws_archive.proofs.Crashes.{removed_leaves}
use Rattle.laws_archive.proofs.out_laws.removed_leaves_it.Goals as goal

pub returns : goal.returns
returns c = removed_leaves
