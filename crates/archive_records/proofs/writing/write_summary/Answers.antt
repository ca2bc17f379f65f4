use Rattle.std.proofs.Common.{refl, subst}
use Rattle.archive_records.specs.Text.{summary_text}
use Rattle.archive_records.specs.Writing.{Writes}
use Rattle.archive_records.proofs.Blamed.{failed}
use Rattle.archive_records.proofs.Puts.{ends_text, stops_in_front, summary_parts}
use Rattle.archive_records.proofs.writing.write_summary.Goals as goal

pub returns-in_err-done : goal.returns-in_err-done
returns-in_err-done g c =
    rw (failed c.from_residual.result c.in_err-done.field-0.0 c.from_residual.ensures.1)
    (stops_in_front _ _ _ _ _ _ _ (summary_parts c.args.summary.now _ refl) c.in_err-done.field-0.0 c.in_err-done.ensures.puts)

pub returns : goal.returns
returns g c =
    let s = c.args.summary.now in
    subst (λ n. Writes g.W.Sink.held g.W.Sink.failures c.args.w.now c.put_end.new.w n (summary_text s) c.put_end.result) c.len.ensures.len
    (ends_text g.W.Sink.held g.W.Sink.failures c.args.w.now _ _ _ _ _
    (summary_parts s c.len.result c.len.ensures.len) c.in_ok-done.done c.put_end.result
    c.in_ok-done.ensures.puts c.put_end.ensures.puts c.put_end.ensures.records)
