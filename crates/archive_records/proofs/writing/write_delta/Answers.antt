use Rattle.std.proofs.Common.{refl, subst}
use Rattle.archive_core.specs.Summary.{delta}
use Rattle.archive_records.specs.Text.{written}
use Rattle.archive_records.specs.Writing.{Writes}
use Rattle.archive_records.proofs.Blamed.{failed}
use Rattle.archive_records.proofs.Puts.{ends_text, stops_in_front, delta_parts, delta_count}
use Rattle.archive_records.proofs.writing.write_delta.Goals as goal

pub returns-in_err-front : goal.returns-in_err-front
returns-in_err-front g c =
    rw (failed c.from_residual.result c.in_err-front.field-0.0 c.from_residual.ensures.1)
    (stops_in_front _ _ _ _ _ _ _ (delta_parts (g.A.Join.content c.args.archive.now) c.args.summary.now _ refl)
    c.in_err-front.field-0.0 c.in_err-front.ensures.puts)

pub returns : goal.returns
returns g c =
    let o = g.A.Join.content c.args.archive.now in
    let s = c.args.summary.now in
    let front = c.in_ok-front.front in
    let records = c.in_ok-front.ensures.records in
    subst (λ n. Writes g.W.Sink.held g.W.Sink.failures c.args.w.now c.put_end.new.w n (written (delta o s))
    c.put_end.result) (delta_count o s front.records records)
    (ends_text g.W.Sink.held g.W.Sink.failures c.args.w.now _ _ _ _ _
    (delta_parts o s front.records records) front.bytes c.put_end.result
    c.in_ok-front.ensures.puts c.put_end.ensures.puts c.put_end.ensures.records)
