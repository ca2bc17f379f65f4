-- Operations in their order, and those of them that are new when they are applied, for any content.
use Rattle.std.specs.Prelude.{◌≡◌, List, map}
use Rattle.std.specs.List.{AllByRecursion, count_by}
use Rattle.std.specs.List.Sorted.{IsStrictlySortedBy}
use Rattle.std.specs.Ordering.{nat_cmp}
use Rattle.std.specs.Cmp.Lexicographic.{slice_cmp}
use Rattle.archive_core.specs.Record.{IsOperation, record_bytes}
use Rattle.archive_core.specs.Content.{Operations, IsMade, changes, new_among, with_records}
use Rattle.archive_core.specs.declared.operations.Operation.{Operation}

-- `sorted` are operations in strictly ascending order of their records. For each content their result is that of `all`,
-- and they change the content the same number of times.
pub record AreSortedWithSameEffect (all sorted : List Operation) : Type 0 where
  pub ascending : IsStrictlySortedBy (slice_cmp nat_cmp) (map record_bytes sorted)
  pub are : AllByRecursion IsOperation sorted
  pub content : (old : Operations) → IsMade old
      → with_records old (map record_bytes sorted) ≡ with_records old (map record_bytes all)
  pub counted : (old : Operations) → IsMade old
      → count_by (changes old) (map record_bytes sorted) ≡ new_among old (map record_bytes all)
