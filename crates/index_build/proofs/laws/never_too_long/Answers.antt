use Rattle.index_build.proofs.Made.{not_far}
use Rattle.index_build.proofs.laws.never_too_long.Goals as goal

pub returns : goal.returns
returns c = not_far c.one_slice_table.ensures
