use Rattle.std.proofs.Common.{sym}
use Rattle.archive_exchange.proofs.Steps.{told_by, not_refused}
use Rattle.archive_exchange.proofs.model_laws.accepted_in_words.Goals as goal

pub returns : goal.returns
returns g c = record { accepted = λ sites events n e. sym (not_refused sites events n (told_by sites events n) e); messages = told_by }
