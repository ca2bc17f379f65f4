use Rattle.std.proofs.Common.{◌≡◌, ◌+◌, map}
use Rattle.archive_core.specs.Record.{record_bytes}
use Rattle.index_format.specs.Entry.{placed_bytes}
use Rattle.index_format.specs.InnerGathering.{AreGathered}
use Rattle.index_format.specs.Runs.{is_tagged}
use Rattle.index_format.proofs.gathering.gather_run.Given as goal

abbrev pub invariant-run : goal.invariant-run
invariant-run g l = record {
  gathered : AreGathered (g.P.Placed.whole l.initial.archive) (is_tagged l.tag l.prefix) (map placed_bytes l.entries)
      (l.start + l.index) (map record_bytes l.initial.gathered.items) (map record_bytes l.gathered.items);
  keeps : g.P.Placed.whole l.archive ≡ g.P.Placed.whole l.initial.archive;
  unfailed : g.P.Placed.failures l.archive ≡ g.P.Placed.failures l.initial.archive;
}
