use Rattle.std.proofs.Common.{◌≡◌, ◌≤◌, ◌+◌, ◌*◌, ◌-◌, ◌^◌, List, ℕ, Option, []}
use Rattle.archive_records.specs.Reader.{HasRead, Gathers}
use Rattle.command_archives.specs.Copying.{IsCopied}
use Rattle.command_archives.proofs.copying.copy_records.Given as goal

abbrev pub invariant-copying : goal.invariant-copying
invariant-copying g l = record {
  gathers : (a w0 : Option (List ℕ)) → HasRead l.initial.reader.file a (g.R.Source.left l.initial.r) [] l.initial.reader
      → IsCopied l.summary w0 (g.W.Sink.held l.initial.w) [] (record { records = 0; bytes = l.begun })
      → Gathers l.initial.reader.file (IsCopied l.summary w0 (g.W.Sink.held l.w)) a (g.R.Source.left l.r) l.written l.reader;
  file : l.reader.file ≡ l.initial.reader.file;
  unfailed : g.R.Source.failures l.r ≡ g.R.Source.failures l.initial.r;
  writer_unfailed : g.W.Sink.failures l.w ≡ g.W.Sink.failures l.initial.w;
  few : l.written.records ≤ l.reader.count;
  fits : l.written.bytes ≤ 8 + l.reader.count * 2 ^ 33;
}

abbrev pub decreases-copying : goal.decreases-copying
decreases-copying g l = 2 ^ 63 - l.reader.count
