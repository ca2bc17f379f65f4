use Rattle.std.proofs.Common.{◌≡◌, ◌≤◌, ◌+◌, ◌*◌, ◌^◌, length, take}
use Rattle.std.specs.List.{concat}
use Rattle.join_core.specs.Listing.{listing}
use Rattle.byte_device.specs.Writes.{IsPut}
use Rattle.archive_records.specs.Text.{missing}
use Rattle.archive_records.proofs.writing.put_missing.Given as goal

abbrev pub invariant-putting : goal.invariant-putting
invariant-putting g l = record {
  fits : l.sizes.bytes ≤ 8 + l.i * 2 ^ 33;
  few : l.sizes.records ≤ l.i;
  count : l.sizes.records ≡ length (missing l.summary (take l.i (listing (g.A.Join.content l.archive))));
  put : IsPut g.W.Sink.held g.W.Sink.failures l.initial.w l.w l.fn.done
      (concat (missing l.summary (take l.i (listing (g.A.Join.content l.archive))))) l.sizes.bytes;
}
