-- Operations in the order of their records: the terms of inner functions. No contract of a public function has them.
use Rattle.std.specs.Prelude.{◌≡◌, List, map}
use Rattle.std.specs.FinSet.{from_list}
use Rattle.std.specs.Ordering.{nat_cmp}
use Rattle.std.specs.Cmp.Lexicographic.{slice_cmp}
use Rattle.std.specs.List.{AllByRecursion}
use Rattle.std.specs.List.Sorted.{IsStrictlySortedBy}
use Rattle.archive_core.specs.Record.{IsOperation, record_bytes}
use Rattle.archive_core.specs.declared.operations.Operation.{Operation}

-- sorted operations without repeats: they ascend, and their members are the same
pub record IsOrderOf (operations ordered : List Operation) : Type 0 where
  pub ascending : IsStrictlySortedBy (slice_cmp nat_cmp) (map record_bytes ordered)
  pub same : from_list {R = slice_cmp nat_cmp} (map record_bytes ordered) ≡ from_list (map record_bytes operations)
  pub are : AllByRecursion IsOperation operations → AllByRecursion IsOperation ordered
