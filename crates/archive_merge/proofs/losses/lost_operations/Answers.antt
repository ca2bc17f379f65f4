use Rattle.std.proofs.Common.{◌∙◌, ap, arith, count_by}
use Rattle.byte_device.specs.Devices.{stream}
use Rattle.std.proofs.lemmas.Result.{err_from_is_err_and}
use Rattle.archive_merge.proofs.Lost.{loses, not_compared}
use Rattle.archive_merge.specs.Arrivals.{is_new}
use Rattle.archive_merge.proofs.losses.lost_operations.Goals as goal

pub returns-clause-lost : goal.returns-clause-lost
returns-clause-lost g c =
    loses (stream g.R.Source.left g.R.Source.failures c.args.new.now c.merge_with_arrivals.new.left)
    (stream g.S.Source.left g.S.Source.failures c.args.old.now c.merge_with_arrivals.new.right) _ c.in_ok-told.field-0-0
    c.in_ok-told.told.arrivals.items c.in_ok-told.told.withdraws c.number_of_new.result c.in_ok-told.ensures.tells
    (c.number_of_new.ensures.counted ∙ ap (count_by is_new) c.deref.ensures.value)

pub returns-in_err-told-clause-refused : goal.returns-in_err-told-clause-refused
returns-in_err-told-clause-refused g c =
    let p = err_from_is_err_and c.from_residual.result c.from_residual.ensures.1 in
    rw (p.1, p.2) (not_compared (stream g.R.Source.left g.R.Source.failures c.args.new.now c.merge_with_arrivals.new.left)
    (stream g.S.Source.left g.S.Source.failures c.args.old.now c.merge_with_arrivals.new.right) _ _ _
    (λ failed. omega (arith, failed)) c.in_err-told.ensures.merges.0)
