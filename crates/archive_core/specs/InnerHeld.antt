-- The invariant of an archive that is a sorted list. No contract names it.
use Rattle.std.specs.Prelude.{List, map}
use Rattle.std.specs.List.{AllByRecursion}
use Rattle.std.specs.List.Sorted.{IsStrictlySortedBy}
use Rattle.std.specs.Ordering.{nat_cmp}
use Rattle.std.specs.Cmp.Lexicographic.{slice_cmp}
use Rattle.std.specs.FinSet as set
use Rattle.archive_core.specs.Record.{record_bytes, IsOperation}
use Rattle.archive_core.specs.Content.{IsMade}
use Rattle.archive_core.specs.declared.operations.Operation.{Operation}

-- operations that strictly ascend by record; none of them covers another
pub record IsHeld (operations : List Operation) : Type 0 where
  pub ascending : IsStrictlySortedBy (slice_cmp nat_cmp) (map record_bytes operations)
  pub are : AllByRecursion IsOperation operations
  pub itself : IsMade (set.from_list (map record_bytes operations))
