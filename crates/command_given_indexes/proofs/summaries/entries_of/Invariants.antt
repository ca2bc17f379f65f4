use Rattle.std.proofs.Common.{◌≡◌, map, take}
use Rattle.index_format.specs.Entry.{placed_bytes}
use Rattle.archive_records.specs.Entry.{entry_bytes}
use Rattle.command_given_indexes.proofs.summaries.entries_of.Given as goal

abbrev pub invariant-entries : goal.invariant-entries
invariant-entries l = map entry_bytes l.made.items ≡ map (take 57) (take l.entry-index (map placed_bytes l.entries))
