use Rattle.byte_device.proofs.Gains.{puts_then, stops_before}
use Rattle.archive_records.proofs.Blamed.{failed}
use Rattle.archive_records.proofs.writing.put_both.Goals as goal

pub returns-in_err-done : goal.returns-in_err-done
returns-in_err-done g c =
    rw (failed c.from_residual.result c.in_err-done.field-0.0 c.from_residual.ensures.1)
    (stops_before _ _ _ _ _ _ c.args.head.now c.args.body.now c.in_err-done.ensures)

pub returns : goal.returns
returns g c =
    puts_then g.W.Sink.held g.W.Sink.failures _ c.args.w.now _ _ _ _ c.args.head.now c.args.body.now c.put-2.result c.in_ok-done.ensures c.put-2.ensures
