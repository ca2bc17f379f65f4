use Rattle.std.proofs.Common.{sym, subst}
use Rattle.index_format.specs.Entry.{placed_bytes}
use Rattle.command_given_indexes.specs.Rows.{IsEntryRow}
use Rattle.command_given_indexes.proofs.Entries.{entry_row}
use Rattle.command_given_indexes.proofs.rows.row_of.Goals as goal

pub returns : goal.returns
returns c =
    let e = c.args.entry.now in
    subst (IsEntryRow (placed_bytes e)) (sym c.row_with.ensures.row) (entry_row e c.row_with.ensures.key c.row_with.ensures.digest)
