use Rattle.archive_exchange.proofs.EntriesDiffer.{telling}
use Rattle.archive_exchange.proofs.model_laws.digests_differ.Goals as goal

pub returns : goal.returns
returns g c = telling
