use Rattle.std.proofs.Common.{◌≡◌, ◌++◌, string_bytes}
use Rattle.archive_exchange.specs.World.{World}
use Rattle.archive_exchange.specs.WorldState.{Represents}
use Rattle.archive_exchange.specs.Rehearse.{site_lines}
use Rattle.archive_exchange.proofs.rehearse.push_sites.Given as goal

abbrev pub invariant-sites : goal.invariant-sites
invariant-sites g l = (w : World) → Represents l.world.sites l.world.messages w → string_bytes l.text
    ≡ string_bytes l.initial.text ++ site_lines w.held l.number
