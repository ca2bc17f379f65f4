use Rattle.std.proofs.Common.{◌≡◌}
use Rattle.archive_index.proofs.range.keep_each_table.Given as goal

-- the operations are as they were
abbrev pub invariant-operations : goal.invariant-operations
invariant-operations l = l.operation-items ≡ l.fn.operations
