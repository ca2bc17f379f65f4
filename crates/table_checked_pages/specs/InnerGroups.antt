-- The meaning of the row of a group: a definition of inner functions. No contract of a public function uses it.
use Rattle.std.specs.Prelude.{◌≡◌, ℕ, List, length, slice_index, take}
use Rattle.table_checked_pages.specs.Groups.{GroupRecord, bytes_of, keys_of}
use Rattle.table_checked_pages.specs.declared.group_reading.GroupRow.{GroupRow}

-- a row is that of the group at an index: its key, and the size of the groups before it
pub record IsGroupRow (groups : List GroupRecord) (index : ℕ) (row : GroupRow) : Type 0 where
  pub key : row.key ≡ slice_index (keys_of groups) index
  pub before : row.before ≡ length (bytes_of (take index groups))
