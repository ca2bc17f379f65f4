use Rattle.text_values.proofs.ReadBack.{uuid_back}
use Rattle.text_values.proofs.laws.uuid_is_read_back.Goals as goal

pub returns : goal.returns
returns c = uuid_back
