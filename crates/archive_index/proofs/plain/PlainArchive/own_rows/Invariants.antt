use Rattle.std.proofs.Common.{map, take}
use Rattle.std.specs.List.{AllZip}
use Rattle.archive_core.specs.Lookup.{IsOwnRow, own_row}
use Rattle.archive_index.specs.InnerScan.{held_among}
use Rattle.archive_index.proofs.plain.PlainArchive.own_rows.Given as goal

-- the rows of the live slices among the operations so far
abbrev pub invariant-operations : goal.invariant-operations
invariant-operations l = AllZip (IsOwnRow l.asked) (held_among l.key l.dsym (take l.operation-index l.operations)) (map own_row l.rows.items)
