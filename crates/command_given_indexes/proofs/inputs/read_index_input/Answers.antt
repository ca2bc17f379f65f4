use Rattle.command_given_indexes.proofs.Refused.{index_kept, index_refused, tables_read}
use Rattle.command_given_indexes.proofs.inputs.read_index_input.Goals as goal

pub returns-in-Ok-clause-read : goal.returns-in-Ok-clause-read
returns-in-Ok-clause-read g c = tables_read g.I.Placed.whole g.I.Placed.failures c.args.index.now _ _ c.in-Ok.ensures

pub returns-in-Ok-clause-kept : goal.returns-in-Ok-clause-kept
returns-in-Ok-clause-kept g c = index_kept g.I.Placed.whole g.I.Placed.failures c.args.index.now _ _ c.in-Ok.ensures

pub returns-in-Err-clause-read : goal.returns-in-Err-clause-read
returns-in-Err-clause-read g c =
    index_refused g.I.Placed.whole g.I.Placed.failures c.args.index.now _ _ _ _ c.in-Err.ensures c.refusal.ensures
