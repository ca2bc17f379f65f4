use Rattle.std.proofs.Common.{sym, ◌∙◌}
use Rattle.archive_exchange.proofs.Had.{held_reached}
use Rattle.archive_exchange.proofs.model_laws.same_operations_same_content.Goals as goal

pub returns : goal.returns
returns g c = λ sites others events later i j same. held_reached sites events i ∙ same ∙ sym (held_reached others later j)
