use Rattle.command_common.proofs.Parts.{alone_told, no_others}
use Rattle.command_queries.proofs.name.read_rows.Goals as goal

pub returns-then-is_empty : goal.returns-then-is_empty
returns-then-is_empty g c = alone_told _ _ _ _ _ _ (no_others c.args.others.now c.is_empty.result c.is_empty.ensures
    c.if-is_empty.true) c.read_name_rows.ensures
