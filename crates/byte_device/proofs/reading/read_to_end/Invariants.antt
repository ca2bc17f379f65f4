use Rattle.std.proofs.Common.{length, take, ◌-◌, ◌^◌, ◌≡◌, ◌≤◌}
use Rattle.std.specs.Io.KnownBytes.{Consumes}
use Rattle.byte_device.proofs.reading.read_to_end.Given as goal

abbrev pub invariant-filling : goal.invariant-filling
invariant-filling g l = record {
  within : l.filled ≤ length l.bytes.items;
  taken : Consumes (g.R.Source.left l.initial.r) (g.R.Source.left l.r) (take l.filled l.bytes.items);
  unfailed : g.R.Source.failures l.r ≡ g.R.Source.failures l.initial.r;
}

abbrev pub decreases-filling : goal.decreases-filling
decreases-filling g l = 2 ^ 64 - l.filled
