-- The rows of an archive's records, one by one: the terms of the inner functions. No contract of a public function has
-- them.
use Rattle.std.specs.Prelude.{◌≡◌, ℕ, List, map, All}
use Rattle.archive_core.specs.Key.{IsKey}
use Rattle.archive_core.specs.Record.{record_bytes, IsOperation}
use Rattle.archive_core.specs.Find.{key_in, row_of}
use Rattle.archive_core.specs.declared.find.FindRow.{FindRow}
use Rattle.archive_core.specs.declared.operations.Operation.{Operation}

-- the rows of the operations with these records, in their order
pub record AreRowsOf (records : List (List ℕ)) (rows : List FindRow) : Type 0 where
  pub operations : List Operation
  pub are : All IsOperation operations
  pub keys_are : All (λ operation. IsKey (key_in operation)) operations
  pub records_are : map record_bytes operations ≡ records
  pub rows_are : rows ≡ map row_of operations
