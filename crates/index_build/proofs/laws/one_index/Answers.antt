use Rattle.index_build.proofs.Contents.{one_of_content}
use Rattle.index_build.proofs.laws.one_index.Goals as goal

pub returns : goal.returns
returns c = one_of_content c.one_slice_table.ensures
