use Rattle.std.proofs.Common.{get_or}
use Rattle.std.proofs.lemmas.Option.{slice_get-get_or}
use Rattle.index_lookup.specs.InnerAnswering.{entry_at}
use Rattle.index_lookup.proofs.Asked.{asked_at}
use Rattle.index_lookup.proofs.told.told_at.Goals as goal

pub returns : goal.returns
returns g c = λ answering has.
    let devices = c.args.devices.now in
    let input = c.args.numbered.now.input in
    asked_at g.P.Placed.whole g.P.Placed.failures c.args.lines c.args.asked.now answering (entry_at c.args.numbered.now)
    devices (get_or devices input c.index-devices-numbered.result) c.told_by.new.device c.told_by.result has
    (slice_get-get_or devices input c.index-devices-numbered.result c.requires) c.told_by.ensures
