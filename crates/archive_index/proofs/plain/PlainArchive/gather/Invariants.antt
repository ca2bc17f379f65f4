use Rattle.std.proofs.Common.{◌≡◌, ◌++◌, take}
use Rattle.archive_index.proofs.plain.PlainArchive.gather.Given as goal

-- what was there, and the operations so far
abbrev pub invariant-operations : goal.invariant-operations
invariant-operations l = l.hashed.items ≡ l.initial.hashed.items ++ take l.operation-index l.operations
