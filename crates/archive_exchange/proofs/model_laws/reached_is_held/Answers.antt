use Rattle.std.proofs.Common.{sym}
use Rattle.archive_exchange.proofs.Had.{had_holds, had_made, held_reached}
use Rattle.archive_exchange.proofs.model_laws.reached_is_held.Goals as goal

pub returns : goal.returns
returns g c = record {
  end = held_reached;
  each = λ sites events n i. sym (had_holds sites events n i);
  meant = had_made;
}
