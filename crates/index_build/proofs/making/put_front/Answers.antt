use Rattle.std.proofs.Common.{ℕ, List, arith, refl, subst}
use Rattle.byte_device.specs.Writes.{IsPut}
use Rattle.archive_records.specs.declared.format.Format.TheVariants.{Archive}
use Rattle.archive_records.proofs.Blamed.{failed}
use Rattle.index_build.proofs.Grown.{put_end, magic_stopped, making_behind, none_stopped, refused_where}
use Rattle.index_build.proofs.making.put_front.Goals as goal

pub returns-in-Err-clause-stopped : goal.returns-in-Err-clause-stopped
returns-in-Err-clause-stopped g c = none_stopped (g.R.Source.left c.args.r.now) (g.R.Source.left c.begin_archive.new.r)
    g.W.Sink.held g.W.Sink.failures c.args.w.now c.in-Err.fault c.in-Err.ensures.stopped c.in-Err.ensures.near

pub returns-in-Err-put-clause-stopped : goal.returns-in-Err-put-clause-stopped
returns-in-Err-put-clause-stopped g c =
    magic_stopped (g.R.Source.left c.args.r.now) (g.R.Source.left c.begin_archive.new.r) g.W.Sink.held g.W.Sink.failures
    c.args.w.now c.put.new.w c.in-Ok.reader c.in-Ok.ensures.read
    c.magic.result c.in-Err-put.fault.written c.magic.ensures c.in-Err-put.ensures

pub returns-in_err-entries-clause-blames : goal.returns-in_err-entries-clause-blames
returns-in_err-entries-clause-blames g c =
    rw (failed c.from_residual.result c.in_err-entries.field-0.0 c.from_residual.ensures.1)
    (making_behind g.R.Source.left g.R.Source.failures c.args.r.now c.begin_archive.new.r c.put_tables.new.r
    c.in-Ok.ensures.unfailed c.in_err-entries.field-0.0 c.in_err-entries.ensures.blames)

pub returns-in-Ok-finish-clause-all : goal.returns-in-Ok-finish-clause-all
returns-in-Ok-finish-clause-all g c =
    let start = subst (λ (t : List ℕ). IsPut g.W.Sink.held g.W.Sink.failures c.args.w.now c.put.new.w 0 t
    c.in-Ok-put.done) c.magic.ensures c.in-Ok-put.ensures in
    let all = c.in_ok-entries.ensures.all (g.R.Source.left c.args.r.now) c.args.w.now c.in-Ok.ensures.read start in (
      c.put_tables.new.reader,
      c.offset.ensures,
      put_end (g.R.Source.left c.args.r.now) (g.R.Source.left c.put_tables.new.r)
          (g.R.Source.left c.finish.new.r) g.W.Sink.held g.W.Sink.failures c.args.w.now c.put_tables.new.w
          c.in_ok-entries.entries.items c.put_tables.new.reader c.in_ok-entries.done all c.in-Ok-finish.ensures.at_end.1,
    )

pub returns-clause-stopped : goal.returns-clause-stopped
returns-clause-stopped g c =
    let start = subst (λ (t : List ℕ). IsPut g.W.Sink.held g.W.Sink.failures c.args.w.now c.put.new.w 0 t
    c.in-Ok-put.done) c.magic.ensures c.in-Ok-put.ensures in
    let all = c.in_ok-entries.ensures.all (g.R.Source.left c.args.r.now) c.args.w.now c.in-Ok.ensures.read start in
    refused_where (g.R.Source.left c.args.r.now) (g.R.Source.left c.finish.new.r) g.W.Sink.held g.W.Sink.failures
    c.args.w.now c.put_tables.new.w all.records all.tables c.in_ok-entries.done c.in-Err-finish.fault
    (c.in-Err-finish.ensures.stopped Archive (g.R.Source.left c.args.r.now) all.records refl all.read) all.tabled.each all.put

pub put_tables-requires-clause-near : goal.put_tables-requires-clause-near
put_tables-requires-clause-near g c = omega (arith, c.in-Ok.ensures.read.offset_is)
