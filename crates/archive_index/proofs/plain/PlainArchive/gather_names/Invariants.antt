use Rattle.std.proofs.Common.{◌≡◌, map, take}
use Rattle.archive_core.specs.Names.{name_view}
use Rattle.archive_index.specs.InnerNames.{names_among}
use Rattle.archive_index.proofs.plain.PlainArchive.gather_names.Given as goal

-- the rows of the name in the operations so far
abbrev pub invariant-operations : goal.invariant-operations
invariant-operations l = map name_view l.rows.items ≡ names_among l.name (take l.operation-index l.operations)
