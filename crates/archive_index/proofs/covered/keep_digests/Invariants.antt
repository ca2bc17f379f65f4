use Rattle.std.proofs.Common.{◌≡◌}
use Rattle.archive_index.proofs.covered.keep_digests.Given as goal

-- the operations are as they were
abbrev pub invariant-operations : goal.invariant-operations
invariant-operations l = l.operation-items ≡ l.fn.operations
