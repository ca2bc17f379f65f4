use Rattle.archive_exchange.proofs.EntriesDiffer.{telling}
use Rattle.archive_exchange.proofs.Deltas.{lifted}
use Rattle.archive_exchange.proofs.model_laws.asker_is_above_replier.Goals as goal

pub returns : goal.returns
returns g c = λ sites events i x a r k are digests is. lifted sites events i x a r k is (telling sites events are digests)
