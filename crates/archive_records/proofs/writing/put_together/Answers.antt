use Rattle.std.proofs.Common.{take, ap, sym, ◌∙◌, length-append}
use Rattle.byte_device.proofs.Gains.{puts_along}
use Rattle.archive_records.proofs.writing.put_together.Goals as goal

pub returns : goal.returns
returns g c =
    let laid = ap (λ n. take n c.lay_both.new.room) (sym (length-append c.args.head.now c.args.body.now)) ∙ c.lay_both.ensures.laid in
    puts_along g.W.Sink.held g.W.Sink.failures _ c.args.w.now _ _ _ _ c.put.result laid c.put.ensures
