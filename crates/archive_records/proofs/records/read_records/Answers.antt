use Rattle.std.proofs.Common.{inr, sym, ◌∙◌}
use Rattle.std.proofs.lemmas.Bool.{false≢true}
use Rattle.byte_device.proofs.Known.{Consumes-none}
use Rattle.archive_records.proofs.Blamed.{blames_behind, failed}
use Rattle.archive_records.proofs.Gathered.{closed_end, gathered}
use Rattle.archive_records.proofs.records.read_records.Goals as goal

pub returns-in_err-taker : goal.returns-in_err-taker
returns-in_err-taker g c =
    rw (failed c.from_residual.result c.in_err-taker.field-0.0 c.from_residual.ensures.1)
    (record {
      read = tt;
      at_end = tt;
      stopped = c.in_err-taker.ensures.stopped;
      reader =
          c.in_err-taker.ensures.reader;
    })

pub returns-then-is_open-clause-read : goal.returns-then-is_open-clause-read
returns-then-is_open-clause-read g c =
    let all = c.in_ok-taker.ensures.read in
    gathered g.T.FromRecords.file (g.T.FromRecords.makes c.args.question) (g.R.Source.left c.args.r.now)
    (g.R.Source.left c.read_text.new.r) (g.R.Source.left c.read_text.new.r) c.in_ok-taker.taker c.in_ok-taker.reader
    all.0 all.1 all.2 (Consumes-none (g.R.Source.left c.read_text.new.r))

pub returns-in_err-finish : goal.returns-in_err-finish
returns-in_err-finish g c =
    let all = c.in_ok-taker.ensures.read in
    let ends = closed_end all.0 (λ e. false≢true (c.if-is_open.ensures.1 (c.requires.file ∙ sym all.1 ∙ e))) in
    rw (failed c.from_residual-in_err-finish.result c.in_err-finish.field-0.0 c.from_residual-in_err-finish.ensures.1) (record {
      read = tt;
      at_end = tt;
      stopped = inr (all.0, all.1, all.2.records, c.in_err-finish.ensures.stopped all.0 (g.R.Source.left c.args.r.now) all.2.records ends all.2.read);
      reader = blames_behind g.R.Source.left g.R.Source.failures c.args.r.now c.read_text.new.r c.finish.new.r
          c.in_ok-taker.ensures.reader _ c.in_err-finish.ensures.reader;
    })

pub returns-clause-read : goal.returns-clause-read
returns-clause-read g c =
    let all = c.in_ok-taker.ensures.read in
    gathered g.T.FromRecords.file (g.T.FromRecords.makes c.args.question) (g.R.Source.left c.args.r.now)
    (g.R.Source.left c.read_text.new.r) (g.R.Source.left c.finish.new.r) c.in_ok-taker.taker c.in_ok-taker.reader
    all.0 all.1 all.2 c.in_ok-finish.ensures.at_end.1
