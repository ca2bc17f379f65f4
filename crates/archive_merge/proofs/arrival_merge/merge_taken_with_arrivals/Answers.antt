use Rattle.std.proofs.Common.{[], false}
use Rattle.std.proofs.lemmas.Result.{err_from_is_err_and}
use Rattle.archive_merge.specs.Sides.{sides_of}
use Rattle.archive_merge.proofs.Starts.{blamed_later, stops_later}
use Rattle.archive_merge.proofs.ArrivalTurns.{tells_as}
use Rattle.archive_merge.proofs.arrival_merge.merge_taken_with_arrivals.Goals as goal

pub returns-in_err-merge_records_with_arrivals-clause-leaves : goal.returns-in_err-merge_records_with_arrivals-clause-leaves
returns-in_err-merge_records_with_arrivals-clause-leaves g c =
    let e = err_from_is_err_and c.from_residual-in_err-merge_records_with_arrivals.result c.from_residual-in_err-merge_records_with_arrivals.ensures.1 in
    let begun = tells_as _ _ _ _ _ _ (sides_of g.B.Side.seen c.in_ok-m.m) [] c.args.told.now.arrivals.items false
    c.args.told.now.withdraws c.requires.arrivals c.requires.withdraws c.in_ok-m.ensures.telling in
    rw (e.1, e.2) (stops_later _ _ _ _ _ _ _ (c.in_err-merge_records_with_arrivals.ensures.telling _ _ _ begun))

pub returns-clause-leaves : goal.returns-clause-leaves
returns-clause-leaves g c =
    let begun = tells_as _ _ _ _ _ _ (sides_of g.B.Side.seen c.in_ok-m.m) [] c.args.told.now.arrivals.items false
    c.args.told.now.withdraws c.requires.arrivals c.requires.withdraws c.in_ok-m.ensures.telling in
    let told = c.in_ok-merge_records_with_arrivals.ensures.telling _ _ _ begun in
    c.finish.ensures.leaves _ _ _ _ _ told.merging

pub returns-in_err-merge_records_with_arrivals-clause-devices : goal.returns-in_err-merge_records_with_arrivals-clause-devices
returns-in_err-merge_records_with_arrivals-clause-devices g c =
    let e = err_from_is_err_and c.from_residual-in_err-merge_records_with_arrivals.result c.from_residual-in_err-merge_records_with_arrivals.ensures.1 in
    let begun = c.in_ok-m.ensures.devices in
    rw (e.1, e.2) (blamed_later g.R.Source.left g.R.Source.failures g.B.ReadFrom.left g.B.ReadFrom.failures _ _ _ _ _ _
    _ _ _ _ begun.0 begun.1 begun.2 c.in_err-merge_records_with_arrivals.ensures.devices)
