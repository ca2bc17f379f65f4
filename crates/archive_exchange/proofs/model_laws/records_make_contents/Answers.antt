use Rattle.archive_exchange.proofs.Kept.{held_content, saved_content}
use Rattle.archive_exchange.proofs.model_laws.records_make_contents.Goals as goal

pub returns : goal.returns
returns g c = record { held = held_content; saved = saved_content }
