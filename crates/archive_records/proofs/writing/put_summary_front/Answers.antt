use Rattle.std.specs.List.{concat}
use Rattle.join_core.specs.Listing.{listing}
use Rattle.archive_records.specs.Kind.{summary_magic}
use Rattle.archive_records.proofs.Blamed.{failed}
use Rattle.archive_records.proofs.Puts.{front_stops, front_then}
use Rattle.archive_records.proofs.writing.put_summary_front.Goals as goal

pub returns-in_err-done-clause-puts : goal.returns-in_err-done-clause-puts
returns-in_err-done-clause-puts g c =
    rw (failed c.from_residual.result c.in_err-done.field-0.0 c.from_residual.ensures.1)
    (front_stops _ _ _ _ _ c.magic.result summary_magic (concat (listing c.args.summary.now)) c.magic.ensures
    c.in_err-done.ensures)

pub returns-clause-puts : goal.returns-clause-puts
returns-clause-puts g c = front_then _ _ _ _ _ _ _ c.magic.result summary_magic (concat (listing c.args.summary.now))
    c.put_entries.result c.magic.ensures c.in_ok-done.ensures (rw c.entries.ensures at c.put_entries.ensures.puts)
