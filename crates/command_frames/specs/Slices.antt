-- The slices that answer under keys, by the entries of indexes.
use Rattle.std.specs.Prelude.{◌≡◌, ℕ, true, List, Contains}
use Rattle.archive_core.specs.Key.{key_bytes}
use Rattle.archive_core.specs.declared.find.FindRow.{FindRow}
use Rattle.archive_core.specs.declared.keys.SliceKey.{SliceKey}
use Rattle.command_queries.specs.Slices.{HaveUuidOf}
use Rattle.index_lookup.specs.Among.{all_of, answers_among}
use Rattle.command_given_indexes.specs.Rows.{IsEntryRow}

-- The row is that of an entry of these indexes that answers under its key, and one of these keys has its UUID.
pub record IsAnsweringEntryRow (all : List (List (List ℕ))) (keys : List SliceKey) (row : FindRow) : Type 0 where
  pub entry : List ℕ
  pub among : Contains (all_of all) entry
  pub answers : answers_among (key_bytes row.key) (all_of all) entry ≡ true
  pub is_row : IsEntryRow entry row
  pub asked : HaveUuidOf keys row.key
