use Rattle.std.proofs.Common.{refl, subst}
use Rattle.archive_records.specs.Text.{written}
use Rattle.archive_records.specs.Writing.{Writes}
use Rattle.archive_records.proofs.Blamed.{failed}
use Rattle.archive_records.proofs.Puts.{ends_text, stops_in_front, written_parts}
use Rattle.archive_records.proofs.writing.write_archive.Goals as goal

pub returns-in_err-done-clause-writes : goal.returns-in_err-done-clause-writes
returns-in_err-done-clause-writes g c =
    rw (failed c.from_residual.result c.in_err-done.field-0.0 c.from_residual.ensures.1)
    (stops_in_front _ _ _ _ _ _ _ (written_parts (g.A.Join.content c.args.archive.now) _ refl) c.in_err-done.field-0.0 c.in_err-done.ensures.puts)

pub returns-clause-writes : goal.returns-clause-writes
returns-clause-writes g c =
    let o = g.A.Join.content c.args.archive.now in
    subst (λ n. Writes g.W.Sink.held g.W.Sink.failures c.args.w.now c.put_end.new.w n (written o) c.put_end.result) c.len.ensures.len
    (ends_text g.W.Sink.held g.W.Sink.failures c.args.w.now _ _ _ _ _
    (written_parts o c.len.result c.len.ensures.len) c.in_ok-done.done c.put_end.result
    c.in_ok-done.ensures.puts c.put_end.ensures.puts c.put_end.ensures.records)
