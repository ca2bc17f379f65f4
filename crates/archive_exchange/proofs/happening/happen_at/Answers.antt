use Rattle.archive_exchange.proofs.Gained.{recorded_by, retire_ok, on_ok}
use Rattle.archive_exchange.proofs.happening.happen_at.Goals as goal

pub returns-in-Take-clause-recorded : goal.returns-in-Take-clause-recorded
returns-in-Take-clause-recorded g c = on_ok _ c.take.result (λ seen. recorded_by c.args.event.now seen (λ s k d e. cc))

pub returns-in-Full-clause-recorded : goal.returns-in-Full-clause-recorded
returns-in-Full-clause-recorded g c = on_ok _ c.full.result (λ seen. recorded_by c.args.event.now seen (λ s k d e. cc (c.in-Full.is, e)))

pub returns-in-Ask-clause-recorded : goal.returns-in-Ask-clause-recorded
returns-in-Ask-clause-recorded g c = on_ok _ c.ask.result (λ seen. recorded_by c.args.event.now seen (λ s k d e. cc (c.in-Ask.is, e)))

pub returns-in-Reply-clause-recorded : goal.returns-in-Reply-clause-recorded
returns-in-Reply-clause-recorded g c = on_ok _ c.reply.result (λ seen. recorded_by c.args.event.now seen (λ s k d e. cc))

pub returns-in-Deliver-clause-recorded : goal.returns-in-Deliver-clause-recorded
returns-in-Deliver-clause-recorded g c = on_ok _ c.deliver.result (λ seen. recorded_by c.args.event.now seen (λ s k d e. cc))

pub returns-in-Save-clause-recorded : goal.returns-in-Save-clause-recorded
returns-in-Save-clause-recorded g c = on_ok _ c.save.result (λ seen. recorded_by c.args.event.now seen (λ s k d e. cc (c.in-Save.is, e)))

pub returns-in-Stop-clause-recorded : goal.returns-in-Stop-clause-recorded
returns-in-Stop-clause-recorded g c = on_ok _ c.stop.result (λ seen. recorded_by c.args.event.now seen (λ s k d e. cc (c.in-Stop.is, e)))

pub returns-in-Retire-clause-recorded : goal.returns-in-Retire-clause-recorded
returns-in-Retire-clause-recorded g c = retire_ok c.args.event.now c.in-Retire.site c.in-Retire.key c.in-Retire.digest
    c.retire.result c.in-Retire.is c.retire.ensures.recorded
