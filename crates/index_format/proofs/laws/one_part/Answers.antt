use Rattle.std.proofs.Common.{◌∙◌, sym}
use Rattle.index_format.proofs.laws.one_part.Goals as goal

pub returns : goal.returns
returns c uuids text entries some other may read also = read entries may ∙ sym (also entries may)
