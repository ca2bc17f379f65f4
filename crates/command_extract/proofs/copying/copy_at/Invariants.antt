use Rattle.std.proofs.Common.{◌≡◌, ◌-◌, ◌≤◌, ◌<◌, length}
use Rattle.command_extract.proofs.Passes.{HaveGone}
use Rattle.command_extract.proofs.copying.copy_at.Given as goal

abbrev pub invariant-copying : goal.invariant-copying
invariant-copying g l = record {
  room : 0 < length l.buffer;
  within : l.done ≤ l.size;
  gone : HaveGone (g.P.Placed.whole l.initial.device) (g.W.Sink.held l.initial.w) (g.W.Sink.held l.w) l.at l.done l.hasher;
  keeps : g.P.Placed.whole l.device ≡ g.P.Placed.whole l.initial.device;
  unfailed : g.P.Placed.failures l.device ≡ g.P.Placed.failures l.initial.device;
  unfailed_sink : g.W.Sink.failures l.w ≡ g.W.Sink.failures l.initial.w;
}

abbrev pub decreases-copying : goal.decreases-copying
decreases-copying g l = l.size - l.done
