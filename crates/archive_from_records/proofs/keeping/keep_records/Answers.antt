use Rattle.std.proofs.Common.{◌∙◌, sym, ap, subst, inr, refl, [], ◌∷◌, ◌++◌}
use Rattle.archive_records.specs.Kind.{IsItemOf, kind_of}
use Rattle.archive_records.specs.Reader.{DropsLast, HasRead, MakeThemselves, after_taken}
use Rattle.archive_records.specs.Text.{taken_of}
use Rattle.archive_records.proofs.TakenRecords.{taken_none, taken_push, taken_pass, made_taken}
use Rattle.archive_records.proofs.RecordSteps.{HasRead-grows, HasReadAll-grows, Stopped-fails, Stopped-unkept}
use Rattle.archive_from_records.proofs.keeping.keep_records.Goals as goal

pub records-init : goal.records-init
records-init g c = record {
  gathers = λ a start. record {
    records = [];
    read = rw c.requires.none start;
    makes = rw (taken_none c.args.reader.now.file, c.requires.none) c.requires.start;
  };
  file = refl;
  unfailed = refl;
}

pub returns-in-Ok-End-clause-all : goal.returns-in-Ok-End-clause-all
returns-in-Ok-End-clause-all g c = λ a start.
    let step = rw (c.in-Ok-End.field-0-is, c.as_ref.ensures.value) at c.in-Ok-End.ensures in
    let m = c.records.invariant.gathers a start in
    record {
      records = m.records;
      read = HasReadAll-grows c.args.reader.now.file a _ _ m.records
          (after_taken c.records.keeping.kept.last c.records.reader) c.advance_after.new.self m.read step.0;
      makes = m.makes;
    }

pub returns-in-Err-clause-stopped : goal.returns-in-Err-clause-stopped
returns-in-Err-clause-stopped g c = λ a start.
    let m = c.records.invariant.gathers a start in
    let step = rw c.as_ref.ensures.value at c.in-Err.ensures in
    inr (
      c.args.reader.now.file,
      c.requires.file,
      m.records,
      Stopped-fails c.args.reader.now.file a _ _ m.records (after_taken c.records.keeping.kept.last c.records.reader) _ m.read
          step.0,
    )

pub keep-requires-clause-record : goal.keep-requires-clause-record
keep-requires-clause-record g c =
    let step = rw (c.in-Ok-Item.field-0-is, c.as_ref.ensures.value) at c.in-Ok-Item.ensures in
    subst (λ k. IsItemOf k c.advance_after.new.self.last) (ap kind_of c.records.invariant.file ∙ c.requires.file) step.0.item

pub returns-in-Err-add_last_slice-clause-stopped : goal.returns-in-Err-add_last_slice-clause-stopped
returns-in-Err-add_last_slice-clause-stopped g c =
    let step = rw (c.in-Ok-Item.field-0-is, c.as_ref.ensures.value) at c.in-Ok-Item.ensures in
    rw (c.out_of_memory.ensures, c.offset-offset.ensures)
    (λ a start.
    let m = c.records.invariant.gathers a start in
    inr (
      c.args.reader.now.file,
      c.requires.file,
      m.records,
      Stopped-unkept c.args.reader.now.file a _ _ m.records (after_taken c.records.keeping.kept.last c.records.reader)
          c.advance_after.new.self m.read step.0,
    ))

pub returns-in-Err-keep-clause-stopped : goal.returns-in-Err-keep-clause-stopped
returns-in-Err-keep-clause-stopped g c =
    let step = rw (c.in-Ok-Item.field-0-is, c.as_ref.ensures.value) at c.in-Ok-Item.ensures in
    rw (c.out_of_memory-in-Err-keep.ensures, c.offset-offset.ensures)
    (λ a start.
    let m = c.records.invariant.gathers a start in
    inr (
      c.args.reader.now.file,
      c.requires.file,
      m.records,
      Stopped-unkept c.args.reader.now.file a _ _ m.records (after_taken c.records.keeping.kept.last c.records.reader)
          c.advance_after.new.self m.read step.0,
    ))

pub records-preserved-then-dropped : goal.records-preserved-then-dropped
records-preserved-then-dropped g c =
    let step = rw (c.in-Ok-Item.field-0-is, c.as_ref.ensures.value) at c.in-Ok-Item.ensures in
    let file = c.args.reader.now.file in
    let now = c.advance_after.new.self in
    record {
      gathers = λ a start.
          let m = c.records.invariant.gathers a start in
          let records = m.records ++ now.last ∷ [] in
          let read = HasRead-grows file a _ _ m.records (after_taken c.records.keeping.kept.last c.records.reader) now m.read step.0 in
          let drops = subst (λ b. DropsLast file b records) (sym c.dropped.ensures ∙ c.if-dropped.true) read.dropped_is in
          record {
            records = records;
            read = rw c.in_default.ensures.none read;
            makes = rw (taken_pass m.records now.last file read.ordered read.apart drops, c.in_default.ensures.none, c.in_default.ensures.kept)
                m.makes;
          };
      file = step.0.file_is ∙ c.records.invariant.file;
      unfailed = step.1 ∙ c.records.invariant.unfailed;
    }

pub records-preserved : goal.records-preserved
records-preserved g c =
    let step = rw (c.in-Ok-Item.field-0-is, c.as_ref.ensures.value) at c.in-Ok-Item.ensures in
    let file = c.args.reader.now.file in
    let now = c.advance_after.new.self in
    let kept = c.in_default-keep.ensures in
    record {
      gathers = λ a start.
          let m = c.records.invariant.gathers a start in
          let records = m.records ++ now.last ∷ [] in
          let read = HasRead-grows file a _ _ m.records (after_taken c.records.keeping.kept.last c.records.reader) now m.read step.0 in
          let drops = subst (λ b. DropsLast file b records) (sym c.dropped.ensures ∙ c.if-dropped.false) read.dropped_is in
          let grown = taken_push m.records now.last file read.ordered drops in
          let made = subst (λ k. MakeThemselves k (taken_of file records)) c.requires.file (made_taken file records read.ordered read.apart) in
          record {
            records = records;
            read = subst (HasRead file a _ records) (sym kept.taken) read;
            makes = rw grown (kept.kept c.args.keeping.now.keeper (taken_of file m.records) (rw grown at made)
                (rw c.in_default.ensures.kept m.makes));
          };
      file = ap (λ p. p.file) kept.taken ∙ step.0.file_is ∙ c.records.invariant.file;
      unfailed = step.1 ∙ c.records.invariant.unfailed;
    }
