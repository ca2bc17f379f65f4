use Rattle.std.proofs.Common.{arith}
use Rattle.archive_exchange.proofs.Followed.{replied, not_replied, follows_as, sent_at}
use Rattle.archive_exchange.proofs.happening.reply.Goals as goal

pub returns-in_ok-outcome-in-Ok : goal.returns-in_ok-outcome-in-Ok
returns-in_ok-outcome-in-Ok g c = λ i. follows_as _ _ _ _ _ _ _ c.in_ok-outcome-in-Ok.ensures.number
    (replied i c.args.message c.args.site.now c.args.messages.now.items _ c.text.result.now c.in-Ok.text.items
    (sent_at c.args.messages.now.items c.args.message c.index.result.now c.text.result.now (omega arith) c.index.ensures
    c.text.ensures) c.in-Ok.ensures.replies c.in_ok-outcome-in-Ok.ensures.sent)

pub returns-in-Err-NotASummary : goal.returns-in-Err-NotASummary
returns-in-Err-NotASummary g c = λ i.
    not_replied i c.args.message c.args.site.now c.args.messages.now.items c.text.result.now c.in-Err-NotASummary.fault
    (sent_at c.args.messages.now.items c.args.message c.index.result.now c.text.result.now (omega arith) c.index.ensures c.text.ensures)
    (rw c.in-Err-NotASummary.field-0-is at c.in-Err-NotASummary.ensures.refused)
