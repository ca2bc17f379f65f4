use Rattle.std.proofs.Common.{◌≡◌, ◌≤◌, ◌-◌, ◌++◌, length, take, drop, filter}
use Rattle.archive_index.proofs.Uncovered.{left_by}
use Rattle.archive_index.proofs.covered.drop_retired.Given as goal

abbrev pub invariant-loop-index : goal.invariant-loop-index
invariant-loop-index l = record {
  from : l.start ≤ l.index;
  old : l.index ≤ length l.fn.operations.items;
  items : l.operations.items ≡ take l.index l.fn.operations.items
      ++ filter (left_by l.key l.digest) (drop l.index l.fn.operations.items);
}

abbrev pub decreases-loop-index : goal.decreases-loop-index
decreases-loop-index l = l.index - l.start
