use Rattle.std.proofs.Common.{map, take}
use Rattle.std.specs.List.{AllZip}
use Rattle.index_format.specs.Entry.{placed_bytes}
use Rattle.command_given_indexes.specs.Rows.{IsEntryRow}
use Rattle.command_given_indexes.proofs.rows.rows_of.Given as goal

abbrev pub invariant-entries : goal.invariant-entries
invariant-entries l = AllZip IsEntryRow (take l.entry-index (map placed_bytes l.entries)) l.rows.items
