use Rattle.text_values.proofs.ReadBack.{digest_back}
use Rattle.text_values.proofs.laws.digest_is_read_back.Goals as goal

pub returns : goal.returns
returns c = digest_back
