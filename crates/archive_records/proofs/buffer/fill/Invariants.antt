use Rattle.std.proofs.Common.{◌-◌, ◌≡◌, ◌≤◌}
use Rattle.archive_records.specs.Reader.{Fills}
use Rattle.archive_records.proofs.buffer.fill.Given as goal

abbrev pub invariant-filling : goal.invariant-filling
invariant-filling g l = record {
  below : l.buffer.at ≤ l.end;
  fills : Fills (g.R.Source.left l.initial.r) (g.R.Source.left l.r) l.initial.buffer l.buffer;
  unfailed : g.R.Source.failures l.r ≡ g.R.Source.failures l.initial.r;
}

abbrev pub decreases-filling : goal.decreases-filling
decreases-filling g l = l.end - l.buffer.at
