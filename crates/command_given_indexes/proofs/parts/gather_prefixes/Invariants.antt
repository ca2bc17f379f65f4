use Rattle.std.proofs.Common.{◌≡◌, map, take}
use Rattle.archive_core.specs.Record.{record_bytes}
use Rattle.command_given_indexes.specs.Prefixes.{prefix_bytes}
use Rattle.command_given_indexes.specs.InnerParts.{HaveGathered}
use Rattle.index_format.specs.Text.{placed_in}
use Rattle.command_given_indexes.proofs.parts.gather_prefixes.Given as goal

abbrev pub invariant-prefixes : goal.invariant-prefixes
invariant-prefixes g l = record {
  gathered : HaveGathered (g.P.Placed.whole l.initial.device) (take l.prefix-index (map prefix_bytes l.prefixes))
      (placed_in l.index) (map record_bytes l.initial.gathered.items) (map record_bytes l.gathered.items);
  keeps : g.P.Placed.whole l.device ≡ g.P.Placed.whole l.initial.device;
  unfailed : g.P.Placed.failures l.device ≡ g.P.Placed.failures l.initial.device;
}
