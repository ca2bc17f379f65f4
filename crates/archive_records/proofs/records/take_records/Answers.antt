use Rattle.std.proofs.Common.{◌∙◌, sym, ap, subst, arith, inr, refl, [], ◌∷◌, ◌++◌}
use Rattle.archive_records.specs.Kind.{IsItemOf, kind_of}
use Rattle.archive_records.specs.Reader.{DropsLast, MakeThemselves}
use Rattle.archive_records.specs.Text.{taken_of}
use Rattle.archive_records.proofs.TakenRecords.{taken_none, taken_push, taken_pass, made_taken}
use Rattle.archive_records.proofs.RecordSteps.{HasRead-grows, HasReadAll-grows, Stopped-fails, Stopped-unkept, step-never_trailing}
use Rattle.archive_records.proofs.records.take_records.Goals as goal

pub taking-init : goal.taking-init
taking-init g c = record {
  gathers = λ a start. record
      { records = []; read = start; makes = λ question made. rw (taken_none c.args.reader.now.file) made };
  file = refl;
  unfailed = refl;
}

pub take-requires : goal.take-requires
take-requires g c =
    let step = rw c.in-Ok-Item.field-0-is at c.in-Ok-Item.ensures in
    subst (λ k. IsItemOf k c.advance.new.self.last) (ap kind_of c.taking.invariant.file ∙ c.requires.file) step.0.item

pub returns-in-Ok-End-clause-all : goal.returns-in-Ok-End-clause-all
returns-in-Ok-End-clause-all g c = λ a question made start.
    let step = rw c.in-Ok-End.field-0-is at c.in-Ok-End.ensures in
    let m = c.taking.invariant.gathers a start in
    record {
      records = m.records;
      read = HasReadAll-grows c.args.reader.now.file a _ _ m.records c.taking.reader
          c.advance.new.self m.read step.0;
      makes = m.makes question made;
    }

pub returns-in-Err-clause-stopped : goal.returns-in-Err-clause-stopped
returns-in-Err-clause-stopped g c = λ a start.
    let m = c.taking.invariant.gathers a start in
    inr (c.args.reader.now.file, c.requires.file, m.records, Stopped-fails c.args.reader.now.file a _ _ m.records c.taking.reader _ m.read c.in-Err.ensures.0)

pub returns-in-Err-clause-no_trailing : goal.returns-in-Err-clause-no_trailing
returns-in-Err-clause-no_trailing g c = step-never_trailing _ _ c.taking.reader _ c.in-Err.ensures.0

pub returns-in-Err-take-clause-stopped : goal.returns-in-Err-take-clause-stopped
returns-in-Err-take-clause-stopped g c =
    let step = rw c.in-Ok-Item.field-0-is at c.in-Ok-Item.ensures in
    rw (c.out_of_memory.ensures, c.offset-offset.ensures)
    (λ a start.
    let m = c.taking.invariant.gathers a start in
    inr (
      c.args.reader.now.file,
      c.requires.file,
      m.records,
      Stopped-unkept c.args.reader.now.file a _ _ m.records c.taking.reader c.advance.new.self m.read step.0,
    ))

pub taking-smaller : goal.taking-smaller
taking-smaller g c =
    let step = rw c.in-Ok-Item.field-0-is at c.in-Ok-Item.ensures in
    omega (arith, step.0.count_is, step.0.few)

pub taking-preserved-then-dropped : goal.taking-preserved-then-dropped
taking-preserved-then-dropped g c =
    let step = rw c.in-Ok-Item.field-0-is at c.in-Ok-Item.ensures in
    let file = c.args.reader.now.file in
    record {
      gathers = λ a start.
          let m = c.taking.invariant.gathers a start in
          let read = HasRead-grows file a _ _ m.records c.taking.reader c.advance.new.self m.read step.0 in
          let drops = subst (λ b. DropsLast file b (m.records ++ c.advance.new.self.last ∷ [])) (sym c.dropped.ensures ∙ c.if-dropped.true) read.dropped_is in
          record {
            records = m.records ++ c.advance.new.self.last ∷ [];
            read = read;
            makes = λ question made. rw (taken_pass m.records c.advance.new.self.last file read.ordered read.apart drops) (m.makes question made);
          };
      file = step.0.file_is ∙ c.taking.invariant.file;
      unfailed = step.1 ∙ c.taking.invariant.unfailed;
    }

pub taking-preserved : goal.taking-preserved
taking-preserved g c =
    let step = rw c.in-Ok-Item.field-0-is at c.in-Ok-Item.ensures in
    let file = c.args.reader.now.file in
    let taken = c.in_default.ensures in
    record {
      gathers = λ a start.
          let m = c.taking.invariant.gathers a start in
          let read = HasRead-grows file a _ _ m.records c.taking.reader c.advance.new.self m.read step.0 in
          let drops = subst (λ b. DropsLast file b (m.records ++ c.advance.new.self.last ∷ [])) (sym c.dropped.ensures ∙ c.if-dropped.false) read.dropped_is in
          let grown = taken_push m.records c.advance.new.self.last file read.ordered drops in
          let made = subst (λ k. MakeThemselves k (taken_of file (m.records ++ c.advance.new.self.last ∷ [])))
          c.requires.file (made_taken file (m.records ++ c.advance.new.self.last ∷ []) read.ordered read.apart) in
          record {
            records = m.records ++ c.advance.new.self.last ∷ [];
            read = read;
            makes = λ question began. rw grown (taken question (taken_of file m.records) (rw grown at made) (m.makes question began));
          };
      file = step.0.file_is ∙ c.taking.invariant.file;
      unfailed = step.1 ∙ c.taking.invariant.unfailed;
    }
