use Rattle.std.proofs.Common.{arith}
use Rattle.archive_exchange.proofs.Followed.{delivered, not_delivered, kept_as, deliver_ne, sent_at}
use Rattle.archive_exchange.proofs.happening.deliver.Goals as goal

pub returns-in-Ok : goal.returns-in-Ok
returns-in-Ok g c = λ i. delivered i c.args.message c.args.site.now c.deliver.new.self c.args.messages.now c.text.result.now
    (sent_at c.args.messages.now c.args.message c.index-messages-message.result c.text.result.now (omega arith)
    c.index-messages-message.is c.text.ensures) c.in-Ok.ensures.joined

pub returns-in-Err-Refused : goal.returns-in-Err-Refused
returns-in-Err-Refused g c = λ i.
    kept_as _ _ _ _ _ _ (c.in-Err-Refused.ensures.kept (deliver_ne _ _ c.in-Err-Refused.field-0-is))
    (not_delivered i c.args.message c.args.site.now c.args.messages.now c.text.result.now c.in-Err-Refused.fault
    (sent_at c.args.messages.now c.args.message c.index-messages-message.result c.text.result.now (omega arith) c.index-messages-message.is c.text.ensures)
    (rw c.in-Err-Refused.field-0-is at c.in-Err-Refused.ensures.refused))
