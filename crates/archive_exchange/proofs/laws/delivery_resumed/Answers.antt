use Rattle.archive_exchange.proofs.Texts.{below_asked, asked_again}
use Rattle.archive_exchange.proofs.laws.delivery_resumed.Goals as goal

pub returns : goal.returns
returns c = record {
  above = λ text old mid part. part.held.above_old;
  below = λ text old mid new part whole. below_asked text old mid new part whole;
  again = λ text old mid new is part rest. asked_again text old mid new is part rest;
}
