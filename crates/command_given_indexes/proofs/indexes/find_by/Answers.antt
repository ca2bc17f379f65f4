use Rattle.std.proofs.Common.{sym, ◌∙◌}
use Rattle.command_common.proofs.Readers.{readers_long}
use Rattle.command_common.specs.Inputs.{readers}
use Rattle.command_given_indexes.proofs.Found.{found_in_several}
use Rattle.command_given_indexes.proofs.indexes.find_by.Goals as goal

pub returns : goal.returns
returns g c =
    let after = c.rows_joined.new.archives in
    let named = readers g.I.Placed.whole g.I.Placed.failures c.args.indexes.now c.rows_joined.new.indexes in
    let known = readers g.P.Placed.whole g.P.Placed.failures c.args.archives.now after in
    let long = readers_long g.P.Placed.whole g.P.Placed.failures c.args.archives.now after c.rows_joined.auto.archives in
    rw (found_in_several named known c.args.uuid.now (λ one. c.if-archives-eq1.false (sym long ∙ one))) c.rows_joined.ensures
