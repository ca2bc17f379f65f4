use Rattle.std.proofs.Common.{take}
use Rattle.archive_index.specs.InnerScan.{held_among, IsAnsweringOf}
use Rattle.archive_index.proofs.plain.PlainArchive.answering.Given as goal

-- what is kept of the live slices among the operations so far
abbrev pub invariant-operations : goal.invariant-operations
invariant-operations l = IsAnsweringOf l.answering (held_among l.key l.dsym (take l.operation-index l.operations))
