use Rattle.command_given_indexes.proofs.Refused.{part_kept, part_read, part_refused}
use Rattle.command_given_indexes.proofs.inputs.read_part_input.Goals as goal

pub returns-in-Ok-clause-read : goal.returns-in-Ok-clause-read
returns-in-Ok-clause-read g c = part_read g.I.Placed.whole g.I.Placed.failures c.args.index.now _ c.args.uuids.now _ _ c.in-Ok.ensures

pub returns-in-Ok-clause-kept : goal.returns-in-Ok-clause-kept
returns-in-Ok-clause-kept g c = part_kept g.I.Placed.whole g.I.Placed.failures c.args.index.now _ c.args.uuids.now _ _ c.in-Ok.ensures

pub returns-in-Err-clause-read : goal.returns-in-Err-clause-read
returns-in-Err-clause-read g c =
    part_refused g.I.Placed.whole g.I.Placed.failures c.args.index.now _ c.args.uuids.now _ _ _ c.in-Err.ensures c.refusal.ensures
