use Rattle.std.proofs.Common.{◌≡◌, length}
use Rattle.archive_exchange.specs.ModelEvent.{OfEvents}
use Rattle.archive_exchange.specs.InnerEvents.{HasRun}
use Rattle.archive_exchange.proofs.running.carry_out.Given as goal

abbrev pub invariant-events : goal.invariant-events
invariant-events g l = record {
  number : length l.row.items
      ≡ l.sites;
  run : OfEvents l.events (λ seen. HasRun l.sites seen l.event-index l.row.items l.messages.items
      l.outcomes.items);
}
