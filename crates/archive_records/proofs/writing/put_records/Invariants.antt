use Rattle.std.proofs.Common.{◌≤◌, ◌+◌, ◌*◌, ◌^◌, take}
use Rattle.std.specs.List.{concat}
use Rattle.join_core.specs.Listing.{listing}
use Rattle.byte_device.specs.Writes.{IsPut}
use Rattle.archive_records.proofs.writing.put_records.Given as goal

abbrev pub invariant-putting : goal.invariant-putting
invariant-putting g l = record {
  fits : l.done ≤ 8 + l.i * 2 ^ 33;
  put : IsPut g.W.Sink.held g.W.Sink.failures l.initial.w l.w l.fn.done (concat (take l.i (listing (g.A.Join.content l.archive)))) l.done;
}
