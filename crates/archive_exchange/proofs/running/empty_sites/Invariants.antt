use Rattle.std.proofs.Common.{◌≡◌, [], length}
use Rattle.archive_exchange.specs.World.{start}
use Rattle.archive_exchange.specs.WorldState.{Represents}
use Rattle.archive_exchange.proofs.running.empty_sites.Given as goal

abbrev pub invariant-sites : goal.invariant-sites
invariant-sites g l = record { number : length l.row.items ≡ l.counter; empty : Represents l.row.items [] start }
