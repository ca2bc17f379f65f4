use Rattle.std.proofs.Common.{◌≡◌, arith, length, sym, ap, ◌∙◌}
use Rattle.byte_device.proofs.Gains.{puts_along}
use Rattle.archive_core.specs.Record.{borrowed_bytes}
use Rattle.archive_records.proofs.Puts.{head_and_slice, head_and_slice_short}
use Rattle.archive_records.proofs.writing.put_record.Goals as goal

pub returns-in-Admit-clause-puts : goal.returns-in-Admit-clause-puts
returns-in-Admit-clause-puts g c =
    let is = head_and_slice c.admission_head.result c.bytes.result.now c.in-Admit.slice c.admission_head.ensures.head
    c.bytes.ensures.bytes ∙ sym (ap borrowed_bytes c.in-Admit.is) in
    puts_along g.W.Sink.held g.W.Sink.failures _ c.args.w.now _ _ _ _ c.put_both.result is c.put_both.ensures

pub returns-in-Retire-clause-puts : goal.returns-in-Retire-clause-puts
returns-in-Retire-clause-puts g c =
    puts_along g.W.Sink.held g.W.Sink.failures _ c.args.w.now _ _ _ _ c.put.result
    (c.retirement_bytes.ensures ∙ sym (ap borrowed_bytes c.in-Retire.is)) c.put.ensures

pub put_both-requires : goal.put_both-requires
put_both-requires g c =
    let long : length c.admission_head.result ≡ 33 = omega arith in
    omega (
      arith,
      c.requires,
      head_and_slice_short c.admission_head.result c.bytes.result.now c.in-Admit.slice long
          c.bytes.ensures.bytes c.admission_head.ensures.short,
    )
