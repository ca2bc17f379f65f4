-- The rows of an index.
use Rattle.std.specs.Prelude.{◌≡◌, List, ℕ, Bool, true, Contains, take, drop, slice_index}
use Rattle.std.specs.List.{AllZip}
use Rattle.std.specs.List.Sorted.{IsPermutation, IsSortedBy, IsStableBy}
use Rattle.std.specs.Ordering.{nat_cmp, is_lt}
use Rattle.std.specs.Cmp.Lexicographic.{slice_cmp}
use Rattle.archive_core.specs.Key.{IsKey, key_bytes}
use Rattle.archive_core.specs.declared.find.FindRow.{FindRow}
use Rattle.index_format.specs.Entry.{dsym_byte, offset_in, tag_byte}
use Rattle.index_format.specs.Places.{entries_under}

-- the row of an entry: its key and digest, and by its tag and kind a retirement, an image or a companion
pub record IsEntryRow (entry : List ℕ) (row : FindRow) : Type 0 where
  pub is_key : IsKey row.key
  pub key_is : key_bytes row.key ≡ take 24 (drop 1 entry)
  pub digest_is : row.digest.0 ≡ take 32 (drop 25 entry)
  pub tag_is : tag_byte row.state ≡ slice_index entry 0
  pub kind_is : dsym_byte row.state ≡ slice_index entry 57

-- the record of the first entry is at a lower offset than that of the second
abbrev pub stands_before : List ℕ → List ℕ → Bool
stands_before a b = is_lt (nat_cmp (offset_in a) (offset_in b))

-- the key of the first row is below that of the second
abbrev pub has_lower_key : FindRow → FindRow → Bool
has_lower_key a b = is_lt (slice_cmp nat_cmp (key_bytes a.key) (key_bytes b.key))

-- The rows of the entries under a prefix, a UUID or the empty one: by key, and those of a key by the offsets of their
-- records.
pub record AreIndexRows (prefix : List ℕ) (entries : List (List ℕ)) (rows : List FindRow) : Type 0 where
  pub placed : List (List ℕ)
  pub moved : IsPermutation (entries_under prefix entries) placed
  pub by_offset : IsSortedBy stands_before placed
  pub told : List FindRow
  pub each : AllZip IsEntryRow placed told
  pub by_key : IsSortedBy has_lower_key rows
  pub stable : IsStableBy has_lower_key told rows

-- These are the rows of those of the entries that pass, in any order and with any repeats.
pub record AreRowsAmong (passes : List ℕ → Bool) (entries : List (List ℕ)) (rows : List FindRow) : Type 0 where
  pub of_entries : (row : FindRow) → Contains rows row
      → (entry : List ℕ) × Contains entries entry × (passes entry ≡ true) × IsEntryRow entry row
  pub whole : (entry : List ℕ) → Contains entries entry → passes entry ≡ true
      → (row : FindRow) × Contains rows row × IsEntryRow entry row
