use Rattle.text_values.proofs.ReadBack.{arch_back}
use Rattle.text_values.proofs.laws.arch_is_read_back.Goals as goal

pub returns : goal.returns
returns c = arch_back
