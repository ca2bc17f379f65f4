use Rattle.std.proofs.lemmas.Result.{err_from_is_err_and}
use Rattle.archive_records.proofs.Inputs.{front_read, front_refused}
use Rattle.archive_from_records.proofs.reading.read_front.Goals as goal

pub returns-in_err-whole : goal.returns-in_err-whole
returns-in_err-whole g c =
    let p = err_from_is_err_and c.from_residual.result c.from_residual.ensures.1 in
    let read = c.in_err-whole.ensures in
    rw (p.1, p.2) (front_refused g.A.Join.content g.R.Source.left g.R.Source.failures c.args.r.now c.read_text.new.r _
    read.stopped read.no_trailing read.reader)

pub returns : goal.returns
returns g c =
    let read = c.in_ok-whole.ensures in
    let m = read.read.2 in
    front_read _ g.R.Source.left g.R.Source.failures c.args.r.now c.read_text.new.r
    (record {
      format = read.read.0;
      kind_is = read.read.1;
      records = m.records;
      few = m.read.few;
      taken = m.read.taken;
      ordered = m.read.ordered;
      apart = m.read.apart;
      makes = m.makes;
    }) read.reader
