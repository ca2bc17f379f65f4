use Rattle.std.proofs.Common.{inr}
use Rattle.archive_records.specs.declared.kind.TextKind.TheVariants.{Archive}
use Rattle.archive_records.proofs.Blamed.{blames_behind, failed}
use Rattle.archive_records.proofs.Gathered.{closed_end, gathered}
use Rattle.archive_from_records.proofs.keeping.keep_whole.Goals as goal

pub returns-in_err-keeping : goal.returns-in_err-keeping
returns-in_err-keeping g c =
    rw (failed c.from_residual.result c.in_err-keeping.field-0.0 c.from_residual.ensures.1)
    (record {
      read = tt;
      at_end = tt;
      stopped = c.in_err-keeping.ensures.stopped;
      reader =
          c.in_err-keeping.ensures.reader;
    })

pub returns-in_err-finish : goal.returns-in_err-finish
returns-in_err-finish g c =
    let all = c.in_ok-keeping.ensures.read in
    let ends = closed_end all.0 (λ e. cc (all.1, e)) in
    rw (failed c.from_residual-in_err-finish.result c.in_err-finish.field-0.0 c.from_residual-in_err-finish.ensures.1) (record {
      read = tt;
      at_end = tt;
      stopped = inr (all.0, all.1, all.2.records, c.in_err-finish.ensures.stopped all.0 (g.R.Source.left c.args.r.now) all.2.records ends all.2.read);
      reader = blames_behind g.R.Source.left g.R.Source.failures c.args.r.now c.keep_front.new.r c.finish.new.r
          c.in_ok-keeping.ensures.reader _ c.in_err-finish.ensures.reader;
    })

pub returns-clause-read : goal.returns-clause-read
returns-clause-read g c =
    let all = c.in_ok-keeping.ensures.read in
    gathered Archive _ (g.R.Source.left c.args.r.now) (g.R.Source.left c.keep_front.new.r)
    (g.R.Source.left c.finish.new.r) c.in_ok-keeping.keeping c.in_ok-keeping.reader all.0 all.1 all.2
    c.in_ok-finish.ensures.at_end.1
