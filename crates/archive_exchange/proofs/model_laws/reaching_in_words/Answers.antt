use Rattle.archive_exchange.proofs.Meant.{reaching_reaches, reaches_reaching}
use Rattle.archive_exchange.proofs.model_laws.reaching_in_words.Goals as goal

pub returns : goal.returns
returns g c = λ sites events had o i n. (reaching_reaches sites events had o i n, reaches_reaching sites events had o i n)
