use Rattle.std.proofs.Common.{◌≡◌, ℕ, ◌<◌, ◌^◌, ◌∙◌, ap, subst, sym, arith, refl}
use Rattle.archive_records.proofs.Blamed.{failed}
use Rattle.index_format.specs.Entry.{entry_bytes}
use Rattle.index_build.specs.Content.{table_entry}
use Rattle.index_build.specs.InnerMaking.{HasPut, StopsRecord}
use Rattle.index_build.proofs.Grown.{put_all, put_more, put_none, next_stopped, record_stopped, unkept}
use Rattle.index_build.proofs.records.put_tables.Goals as goal

pub taking-init : goal.taking-init
taking-init g c = record {
  gathers = λ a first read put. subst (λ es. HasPut a (g.R.Source.left c.args.r.now) g.W.Sink.held g.W.Sink.failures
      first c.args.w.now es c.args.reader.now c.args.done) (sym c.new-entries.ensures.items)
      (put_none a (g.R.Source.left c.args.r.now) g.W.Sink.held g.W.Sink.failures first c.args.w.now c.args.reader.now
      c.args.done read put);
  file = c.requires.file;
  unfailed = refl;
  short = c.requires.fits;
  near = c.requires.near;
}

pub returns-in-Ok-End-clause-all : goal.returns-in-Ok-End-clause-all
returns-in-Ok-End-clause-all g c = λ a first read put.
    let step = rw c.in-Ok-End.field-0-is at c.in-Ok-End.ensures in
    put_all a _ _ _ _ first c.taking.w c.taking.w c.taking.entries.items c.taking.reader c.advance.new.self
    c.taking.done (c.taking.invariant.gathers a first read put) step.0

pub returns-in-Ok-End-clause-near : goal.returns-in-Ok-End-clause-near
returns-in-Ok-End-clause-near g c =
    let step = rw c.in-Ok-End.field-0-is at c.in-Ok-End.ensures in
    omega (arith, step.0.offset_is, c.taking.invariant.near)

pub returns-in-Err-clause-stopped : goal.returns-in-Err-clause-stopped
returns-in-Err-clause-stopped g c =
    rw c.refused.ensures (λ a first read put.
    next_stopped a _ _ _ _ first c.taking.w c.taking.w c.taking.entries.items c.taking.reader c.advance.new.self
    c.taking.done (c.taking.invariant.gathers a first read put) c.in-Err.fault c.in-Err.ensures.0)

pub taking-smaller : goal.taking-smaller
taking-smaller g c =
    let step = rw c.in-Ok-Item.field-0-is at c.in-Ok-Item.ensures in
    omega (arith, step.0.count_is, step.0.few)

pub returns-in_err-entry-clause-stopped : goal.returns-in_err-entry-clause-stopped
returns-in_err-entry-clause-stopped g c =
    let step = rw c.in-Ok-Item.field-0-is at c.in-Ok-Item.ensures in
    let fault = c.in_err-entry.field-0.0 in
    let stops = subst (λ (n : ℕ). StopsRecord g.W.Sink.held g.W.Sink.failures c.taking.w c.put_record.new.w n
    c.taking.done c.advance.new.self.last fault) c.offset-before.ensures c.in_err-entry.ensures.stopped in
    rw (failed c.from_residual.result fault c.from_residual.ensures.1) (λ a first read put.
    record_stopped a _ _ g.W.Sink.held g.W.Sink.failures first c.taking.w c.put_record.new.w c.taking.entries.items
    c.taking.reader c.advance.new.self c.taking.done (c.taking.invariant.gathers a first read put) fault step.0
    stops)

pub returns-in-Err-push-clause-stopped : goal.returns-in-Err-push-clause-stopped
returns-in-Err-push-clause-stopped g c =
    let step = rw c.in-Ok-Item.field-0-is at c.in-Ok-Item.ensures in
    let p = c.in_ok-entry.ensures.put in
    rw (c.refused-in-Err-push.ensures, c.out_of_memory.ensures, c.offset-before.ensures) (λ a first read put.
    unkept a _ _ g.W.Sink.held g.W.Sink.failures first c.taking.w c.put_record.new.w c.taking.entries.items
    c.taking.reader c.advance.new.self c.taking.done (c.taking.invariant.gathers a first read put) p.0
    c.in_ok-entry.end step.0 p.1 p.3)

pub taking-preserved : goal.taking-preserved
taking-preserved g c =
    let step = rw c.in-Ok-Item.field-0-is at c.in-Ok-Item.ensures in
    let p = c.in_ok-entry.ensures.put in
    let before = c.taking.reader.offset in
    let near : before < 2 ^ 64 = omega (arith, c.in_ok-entry.ensures.near.0, c.offset-before.ensures) in
    let entry : entry_bytes c.in_ok-entry.entry ≡ table_entry before c.taking.done c.advance.new.self.last p.0 = p.2
    ∙ ap (λ (n : ℕ). table_entry n c.taking.done c.advance.new.self.last p.0) c.offset-before.ensures in
    record {
      gathers = λ a first read put.
          put_more a _ _ g.W.Sink.held g.W.Sink.failures first c.taking.w c.put_record.new.w c.taking.entries.items
          c.taking.reader c.advance.new.self c.taking.done (c.taking.invariant.gathers a first read put)
          c.push.new.self.items c.in_ok-entry.entry p.0 c.in_ok-entry.end step.0
          (near, c.in_ok-entry.ensures.near.1) c.in_ok-entry.ensures.bytes c.in_default.ensures.items p.1 entry p.3;
      file = step.0.file_is ∙ c.taking.invariant.file;
      unfailed = step.1 ∙ c.taking.invariant.unfailed;
      short = c.in_ok-entry.ensures.short;
      near = omega (arith, step.0.offset_is, near, c.in_ok-entry.ensures.long);
    }
