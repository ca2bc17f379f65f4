use Rattle.std.proofs.lemmas.Result.{err_from_is_err_and}
use Rattle.archive_records.proofs.Inputs.{refused}
use Rattle.archive_records.proofs.Made.{finished, says, wanted}
use Rattle.archive_records.proofs.records.read_answer.Goals as goal

pub returns-in_err-taker : goal.returns-in_err-taker
returns-in_err-taker g c =
    let p = err_from_is_err_and c.from_residual.result c.from_residual.ensures.1 in
    let read = c.in_err-taker.ensures in
    rw (p.1, p.2) (refused g.T.FromRecords.file g.R.Source.left g.R.Source.failures c.args.r.now c.read_records.new.r _ read.stopped read.reader)

pub finish-requires : goal.finish-requires
finish-requires g c =
    let read = c.in_ok-taker.ensures in
    let s = says (g.T.FromRecords.makes c.args.question) (g.R.Source.left c.args.r.now)
    (g.R.Source.left c.read_records.new.r) c.in_ok-taker.taker read.at_end g.T.FromRecords.file read.read in
    (c.args.question, s.meaning, s.is, s.makes)

pub returns-in-Ok : goal.returns-in-Ok
returns-in-Ok g c =
    let read = c.in_ok-taker.ensures in
    finished g.T.FromRecords.file (g.T.FromRecords.makes c.args.question) (g.T.FromRecords.tells c.args.question)
    g.R.Source.left g.R.Source.failures c.args.r.now c.read_records.new.r c.in_ok-taker.taker c.in-Ok.told read.read
    read.at_end read.reader (c.in-Ok.ensures c.args.question)

pub returns-in-Err : goal.returns-in-Err
returns-in-Err g c =
    let read = c.in_ok-taker.ensures in
    rw c.out_of_memory.ensures (wanted g.T.FromRecords.file (g.T.FromRecords.makes c.args.question) g.R.Source.left
    g.R.Source.failures c.args.r.now c.read_records.new.r c.in_ok-taker.taker read.read read.at_end read.reader)
