use Rattle.archive_exchange.proofs.Rows.{number, skipped_at, row_at}
use Rattle.archive_exchange.proofs.model_laws.rows_in_order.Goals as goal

pub returns : goal.returns
returns c = record { number = number; skipped = skipped_at; taken = row_at }
