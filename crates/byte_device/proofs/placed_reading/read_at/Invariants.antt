use Rattle.std.proofs.Common.{◌≡◌, ◌≤◌, ◌-◌, length, take}
use Rattle.byte_device.specs.Places.{Stands}
use Rattle.byte_device.proofs.placed_reading.read_at.Given as goal

abbrev pub invariant-filling : goal.invariant-filling
invariant-filling g l = record {
  within : l.filled ≤ length l.bytes.items;
  most : length l.bytes.items ≤ l.count;
  stands : Stands (g.P.Placed.whole l.initial.device) l.at (take l.filled l.bytes.items);
  keeps : g.P.Placed.whole l.device ≡ g.P.Placed.whole l.initial.device;
  unfailed : g.P.Placed.failures l.device ≡ g.P.Placed.failures l.initial.device;
}

abbrev pub decreases-filling : goal.decreases-filling
decreases-filling g l = l.count - l.filled
