use Rattle.std.proofs.Common.{◌∙◌, ap, subst, arith, refl, [], ◌∷◌, ◌++◌}
use Rattle.archive_records.specs.Kind.{IsItemOf, kind_of}
use Rattle.archive_records.proofs.Puts.{few_missing}
use Rattle.archive_records.proofs.TakenRecords.{taken_none, taken_push, taken_pass}
use Rattle.archive_records.proofs.RecordSteps.{HasRead-grows, HasReadAll-grows, Stopped-fails}
use Rattle.command_archives.proofs.Unnamed.{copied_in, copied_more, copied_to, copied_within}
use Rattle.command_archives.proofs.copying.copy_records.Goals as goal

pub copying-init : goal.copying-init
copying-init g c = record {
  gathers = λ a w0 start copied. record { records = []; read = start; makes = rw (taken_none c.args.reader.now.file) copied };
  file = refl;
  unfailed = refl;
  writer_unfailed = refl;
  few = omega arith;
  fits = omega (arith, c.requires.fits);
}

pub record-requires : goal.record-requires
record-requires g c =
    let step = rw c.in-Ok-Item.field-0-is at c.in-Ok-Item.ensures in
    subst (λ k. IsItemOf k c.advance.new.self.last) (ap kind_of c.copying.invariant.file ∙ c.requires.archive) step.0.item

pub returns-in-Ok-End-clause-copied : goal.returns-in-Ok-End-clause-copied
returns-in-Ok-End-clause-copied g c = λ a w0 start copied.
    let step = rw c.in-Ok-End.field-0-is at c.in-Ok-End.ensures in
    let m = c.copying.invariant.gathers a w0 start copied in
    record { records = m.records; read = HasReadAll-grows _ a _ _ m.records c.copying.reader c.advance.new.self m.read step.0; makes = m.makes }

pub returns-in-Err-clause-stopped : goal.returns-in-Err-clause-stopped
returns-in-Err-clause-stopped g c = λ a w0 start copied.
    let m = c.copying.invariant.gathers a w0 start copied in
    let stop = Stopped-fails _ a _ _ m.records c.copying.reader _ m.read c.in-Err.ensures.0 in
    ((m.records, stop), copied_to _ _ a _ w0 _ m.records _ c.copying.written stop m.makes)

pub copying-smaller : goal.copying-smaller
copying-smaller g c =
    let step = rw c.in-Ok-Item.field-0-is at c.in-Ok-Item.ensures in
    omega (arith, step.0.count_is, step.0.few)

pub copying-preserved-then-dropped : goal.copying-preserved-then-dropped
copying-preserved-then-dropped g c =
    let step = rw c.in-Ok-Item.field-0-is at c.in-Ok-Item.ensures in
    record {
      gathers = λ a w0 start copied.
          let m = c.copying.invariant.gathers a w0 start copied in
          let read = HasRead-grows _ a _ _ m.records c.copying.reader c.advance.new.self m.read step.0 in
          let drops = rw (← c.dropped.ensures, c.if-dropped.true) at read.dropped_is in
          record {
            records = m.records ++ c.advance.new.self.last ∷ [];
            read = read;
            makes = rw (taken_pass m.records c.advance.new.self.last _ read.ordered read.apart drops) m.makes;
          };
      file = step.0.file_is ∙ c.copying.invariant.file;
      unfailed = step.1 ∙ c.copying.invariant.unfailed;
      writer_unfailed = c.copying.invariant.writer_unfailed;
      few = omega (arith, step.0.count_is, c.copying.invariant.few);
      fits = omega (arith, step.0.count_is, c.copying.invariant.fits);
    }

pub copying-preserved : goal.copying-preserved
copying-preserved g c =
    let step = rw c.in-Ok-Item.field-0-is at c.in-Ok-Item.ensures in
    let puts = c.in-Ok.ensures.puts in
    let put = rw c.record.ensures.bytes at puts in
    let records = c.in-Ok.ensures.records in
    let count = rw c.record.ensures.bytes at records in
    let one = few_missing c.args.summary.now c.advance.new.self.last in
    record {
      gathers = λ a w0 start copied.
          let m = c.copying.invariant.gathers a w0 start copied in
          let read = HasRead-grows _ a _ _ m.records c.copying.reader c.advance.new.self m.read step.0 in
          let drops = rw (← c.dropped.ensures, c.if-dropped.false) at read.dropped_is in
          record {
            records = m.records ++ c.advance.new.self.last ∷ [];
            read = read;
            makes = rw (taken_push m.records c.advance.new.self.last c.args.reader.now.file read.ordered drops)
                (copied_more _ w0 _ _ _ _ c.copying.written m.makes c.in-Ok.more put.size_is count put.gained);
          };
      file = step.0.file_is ∙ c.copying.invariant.file;
      unfailed = step.1 ∙ c.copying.invariant.unfailed;
      writer_unfailed = put.unfailed ∙ c.copying.invariant.writer_unfailed;
      few = omega (arith, step.0.count_is, c.copying.invariant.few, count, one);
      fits = omega (arith, step.0.count_is, c.copying.invariant.fits, c.in-Ok.ensures.short);
    }

pub returns-in-Err-put_missing_record-clause-stopped : goal.returns-in-Err-put_missing_record-clause-stopped
returns-in-Err-put_missing_record-clause-stopped g c = λ a w0 start copied.
    let step = rw c.in-Ok-Item.field-0-is at c.in-Ok-Item.ensures in
    let m = c.copying.invariant.gathers a w0 start copied in
    let read = HasRead-grows _ a _ _ m.records c.copying.reader c.advance.new.self m.read step.0 in
    let drops = rw (← c.dropped.ensures, c.if-dropped.false) at read.dropped_is in
    let grown = taken_push m.records c.advance.new.self.last c.args.reader.now.file read.ordered drops in
    let stops = c.in-Err-put_missing_record.ensures.puts in
    let e = rw c.record.ensures.bytes at stops in
    (tt, copied_within _ _ a _ w0 _ _ c.advance.new.self _ read (rw grown (copied_in _ w0 _ _ _ _ c.copying.written m.makes _ e.some e.written_is e.first)))
