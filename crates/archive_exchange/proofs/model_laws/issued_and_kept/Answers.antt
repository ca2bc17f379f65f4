use Rattle.archive_exchange.proofs.Kept.{all_issued, saved_stays, saved_under_held}
use Rattle.archive_exchange.proofs.model_laws.issued_and_kept.Goals as goal

pub returns : goal.returns
returns g c = record {
  held = λ sites events n i. (all_issued sites events n i).0;
  saved = λ sites events n i. (all_issued sites events n i).1;
  grows = saved_stays;
  below = saved_under_held;
}
