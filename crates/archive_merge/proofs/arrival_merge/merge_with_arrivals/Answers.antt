use Rattle.std.proofs.Common.{Ok, Err}
use Rattle.std.proofs.lemmas.Result.{err_from_is_err_and}
use Rattle.byte_device.specs.Devices.{stream}
use Rattle.archive_merge.proofs.Merges.{merges}
use Rattle.archive_merge.proofs.ArrivalsAtEnd.{merged_telling, arrivals_of_texts, withdraws_of_texts}
use Rattle.archive_merge.proofs.arrival_merge.merge_with_arrivals.Goals as goal

pub returns-in_err-sizes-clause-merges : goal.returns-in_err-sizes-clause-merges
returns-in_err-sizes-clause-merges g c =
    let e = err_from_is_err_and c.from_residual.result c.from_residual.ensures.1 in
    let taken = c.in_err-sizes.ensures in
    rw (e.1, e.2) (merges (stream g.R.Source.left g.R.Source.failures c.args.left.now c.merge_taken_with_arrivals.new.r1)
    (stream g.B.ReadFrom.left g.B.ReadFrom.failures c.args.right.now c.merge_taken_with_arrivals.new.r2)
    (stream g.W.Sink.held g.W.Sink.failures c.args.w.now c.merge_taken_with_arrivals.new.w) (Err _) taken.leaves taken.devices)

pub returns-clause-merges : goal.returns-clause-merges
returns-clause-merges g c =
    let taken = c.in_ok-sizes.ensures in
    merges (stream g.R.Source.left g.R.Source.failures c.args.left.now c.merge_taken_with_arrivals.new.r1)
    (stream g.B.ReadFrom.left g.B.ReadFrom.failures c.args.right.now c.merge_taken_with_arrivals.new.r2)
    (stream g.W.Sink.held g.W.Sink.failures c.args.w.now c.merge_taken_with_arrivals.new.w) (Ok c.in_ok-sizes.sizes) taken.leaves
    taken.devices

pub returns-clause-tells : goal.returns-clause-tells
returns-clause-tells g c =
    let taken = c.in_ok-sizes.ensures in
    merged_telling (stream g.R.Source.left g.R.Source.failures c.args.left.now c.merge_taken_with_arrivals.new.r1)
    (stream g.B.ReadFrom.left g.B.ReadFrom.failures c.args.right.now c.merge_taken_with_arrivals.new.r2)
    (stream g.W.Sink.held g.W.Sink.failures c.args.w.now c.merge_taken_with_arrivals.new.w) c.in_ok-sizes.sizes
    c.merge_taken_with_arrivals.new.told.arrivals.items c.merge_taken_with_arrivals.new.told.withdraws taken.told taken.devices

pub returns-clause-arrivals : goal.returns-clause-arrivals
returns-clause-arrivals g c =
    let taken = c.in_ok-sizes.ensures in
    arrivals_of_texts (stream g.R.Source.left g.R.Source.failures c.args.left.now c.merge_taken_with_arrivals.new.r1)
    (stream g.B.ReadFrom.left g.B.ReadFrom.failures c.args.right.now c.merge_taken_with_arrivals.new.r2)
    (stream g.W.Sink.held g.W.Sink.failures c.args.w.now c.merge_taken_with_arrivals.new.w) c.in_ok-sizes.sizes
    c.merge_taken_with_arrivals.new.told.arrivals.items c.merge_taken_with_arrivals.new.told.withdraws taken.told taken.devices

pub returns-clause-withdraws : goal.returns-clause-withdraws
returns-clause-withdraws g c =
    let taken = c.in_ok-sizes.ensures in
    withdraws_of_texts (stream g.R.Source.left g.R.Source.failures c.args.left.now c.merge_taken_with_arrivals.new.r1)
    (stream g.B.ReadFrom.left g.B.ReadFrom.failures c.args.right.now c.merge_taken_with_arrivals.new.r2)
    (stream g.W.Sink.held g.W.Sink.failures c.args.w.now c.merge_taken_with_arrivals.new.w) c.in_ok-sizes.sizes
    c.merge_taken_with_arrivals.new.told.arrivals.items c.merge_taken_with_arrivals.new.told.withdraws taken.told taken.devices
