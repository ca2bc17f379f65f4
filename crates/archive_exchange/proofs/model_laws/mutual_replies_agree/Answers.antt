use Rattle.archive_exchange.proofs.EntriesDiffer.{telling}
use Rattle.archive_exchange.proofs.Agreed.{agreed}
use Rattle.archive_exchange.proofs.model_laws.mutual_replies_agree.Goals as goal

pub returns : goal.returns
returns g c = λ sites events i j a r d b s e are digests one other qi qj. agreed sites events i j a r d b s e one other qi qj (telling sites events are digests)
