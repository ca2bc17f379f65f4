use Rattle.std.proofs.Common.{inl}
use Rattle.std.proofs.lemmas.Result.{err_from_is_err_and}
use Rattle.archive_records.proofs.Blamed.{blames_behind, failed}
use Rattle.archive_from_records.proofs.keeping.keep_front.Goals as goal

pub returns-in_err-reader : goal.returns-in_err-reader
returns-in_err-reader g c =
    let stops = c.in_err-reader.ensures.stops in
    rw (failed c.from_residual.result c.in_err-reader.field-0.0 c.from_residual.ensures.1) (record {
      read = tt;
      stopped = inl (stops.0, stops.1, stops.2, c.in_err-reader.ensures.start);
      reader = c.in_err-reader.ensures.reader;
    })

pub returns-clause-read : goal.returns-clause-read
returns-clause-read g c =
    let begun = c.in_ok-reader.ensures in
    (c.in_ok-reader.reader.file, begun.kind, c.in_ok-keep_records.ensures.all (g.R.Source.left c.args.r.now) begun.read)

pub returns-in_err-keep_records-clause-reader : goal.returns-in_err-keep_records-clause-reader
returns-in_err-keep_records-clause-reader g c =
    let p = err_from_is_err_and c.from_residual-in_err-keep_records.result c.from_residual-in_err-keep_records.ensures.1 in
    rw (p.1, p.2) (blames_behind g.R.Source.left g.R.Source.failures c.args.r.now c.begin.new.r c.keep_records.new.r
    c.in_ok-reader.ensures.reader _ c.in_err-keep_records.ensures.reader)

pub returns-in_err-keep_records-clause-stopped : goal.returns-in_err-keep_records-clause-stopped
returns-in_err-keep_records-clause-stopped g c =
    let p = err_from_is_err_and c.from_residual-in_err-keep_records.result c.from_residual-in_err-keep_records.ensures.1 in
    rw (p.1, p.2) (c.in_err-keep_records.ensures.stopped (g.R.Source.left c.args.r.now) c.in_ok-reader.ensures.read)
