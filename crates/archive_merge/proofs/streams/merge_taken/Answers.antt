use Rattle.std.proofs.lemmas.Result.{err_from_is_err_and}
use Rattle.archive_merge.proofs.Starts.{blamed_later, stops_later}
use Rattle.archive_merge.proofs.streams.merge_taken.Goals as goal

pub returns-in_err-merge_records-clause-leaves : goal.returns-in_err-merge_records-clause-leaves
returns-in_err-merge_records-clause-leaves g c =
    let e = err_from_is_err_and c.from_residual-in_err-merge_records.result c.from_residual-in_err-merge_records.ensures.1 in
    rw (e.1, e.2) (stops_later _ _ _ _ _ _ _ (c.in_err-merge_records.ensures.merging _ _ _ c.in_ok-m.ensures.telling.merging))

pub returns-in_err-merge_records-clause-devices : goal.returns-in_err-merge_records-clause-devices
returns-in_err-merge_records-clause-devices g c =
    let e = err_from_is_err_and c.from_residual-in_err-merge_records.result c.from_residual-in_err-merge_records.ensures.1 in
    let begun = c.in_ok-m.ensures.devices in
    rw (e.1, e.2) (blamed_later g.R.Source.left g.R.Source.failures g.B.ReadFrom.left g.B.ReadFrom.failures _ _ _ _ _ _
    _ _ _ _ begun.0 begun.1 begun.2 c.in_err-merge_records.ensures.devices)

pub returns-clause-leaves : goal.returns-clause-leaves
returns-clause-leaves g c = c.finish.ensures.leaves _ _ _ _ _ (c.in_ok-merge_records.ensures.merging _ _ _ c.in_ok-m.ensures.telling.merging)
