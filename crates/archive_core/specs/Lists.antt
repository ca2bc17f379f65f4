-- The list of an archive: the retirements and the live slices of all UUIDs.
use Rattle.std.specs.Prelude.{◌≡◌, ◌↔◌, ℕ, List, map, filter, Contains}
use Rattle.std.specs.Ordering.{nat_cmp, on, then_cmp}
use Rattle.std.specs.Str.{bytes_eq}
use Rattle.std.specs.declared.cmp.Ordering.{Ordering}
use Rattle.std.specs.Cmp.Lexicographic.{slice_cmp}
use Rattle.std.specs.List.Sorted.{IsStrictlySortedBy}
use Rattle.archive_core.specs.Record.{IsOperation}
use Rattle.archive_core.specs.Content.{Operations}
use Rattle.archive_core.specs.Find.{key_in, find_cmp, IsFoundUnder, row_of}
use Rattle.archive_core.specs.declared.find.FindRow.{FindRow}
use Rattle.archive_core.specs.declared.operations.Operation.{Operation}

-- operations by UUID, then in the order of a search for that UUID
abbrev pub list_cmp : Operation → Operation → Ordering
list_cmp = then_cmp (on (λ operation. (key_in operation).uuid) (slice_cmp nat_cmp)) find_cmp

-- a search for the UUID of the operation finds it
abbrev pub IsListed : Operations → Operation → Type 0
IsListed o operation = IsFoundUnder o (key_in operation).uuid operation

-- the complete list: one row for each retirement and each live slice, by UUID, then by architecture, then by record
pub record IsList (o : Operations) (rows : List FindRow) : Type 0 where
  pub operations : List Operation
  pub ascending : IsStrictlySortedBy list_cmp operations
  pub exactly : (a : Operation) → Contains operations a ↔ (IsOperation a × IsListed o a)
  pub rows_are : rows ≡ map row_of operations

-- the rows with a UUID
abbrev pub rows_under : List ℕ → List FindRow → List FindRow
rows_under uuid rows = filter (λ row. bytes_eq row.key.uuid uuid) rows
