use Rattle.std.proofs.Common.{length, take, ◌-◌, ◌≡◌, ◌≤◌}
use Rattle.std.specs.Io.KnownBytes.{Appends}
use Rattle.byte_device.proofs.writing.push_all.Given as goal

abbrev pub invariant-pushing : goal.invariant-pushing
invariant-pushing g l = record {
  within : l.at ≤ length l.bytes;
  gained : Appends (g.W.Sink.held l.initial.w) (g.W.Sink.held l.w) (take l.at l.bytes);
  unfailed : g.W.Sink.failures l.w ≡ g.W.Sink.failures l.initial.w;
}

abbrev pub decreases-pushing : goal.decreases-pushing
decreases-pushing g l = length l.bytes - l.at
