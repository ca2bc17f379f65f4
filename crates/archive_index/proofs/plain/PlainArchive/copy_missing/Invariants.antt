use Rattle.std.proofs.Common.{◌≡◌, filter, take}
use Rattle.archive_core.specs.Content.{changes}
use Rattle.archive_core.specs.Record.{record_bytes}
use Rattle.archive_index.proofs.plain.PlainArchive.copy_missing.Given as goal

-- the missing ones among the operations so far
abbrev pub invariant-operations : goal.invariant-operations
invariant-operations l = l.missing.items ≡ filter (λ operation. changes l.self (record_bytes operation)) (take l.operation-index l.operations)
