use Rattle.std.proofs.Common.{◌≡◌, map, take}
use Rattle.archive_index.specs.InnerScan.{held_among}
use Rattle.archive_index.proofs.plain.PlainArchive.live_slices.Given as goal

-- the live slices among the operations so far
abbrev pub invariant-operations : goal.invariant-operations
invariant-operations l = map (λ slice. slice.now) l.slices.items ≡ held_among l.key l.dsym (take l.operation-index l.operations)
