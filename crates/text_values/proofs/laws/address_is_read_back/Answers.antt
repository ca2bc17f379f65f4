use Rattle.text_values.proofs.ReadBack.{address_back}
use Rattle.text_values.proofs.laws.address_is_read_back.Goals as goal

pub returns : goal.returns
returns c = address_back
