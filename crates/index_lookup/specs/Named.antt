-- The slices that entries name.
use Rattle.std.specs.Prelude.{◌≡◌, ℕ, ◌-◌, true, List, take, drop, if◌then◌else◌}
use Rattle.std.specs.List.{AllZip}
use Rattle.archive_core.specs.Key.{IsKey, key_bytes}
use Rattle.archive_core.specs.declared.find.FindRow.{FindRow}
use Rattle.archive_core.specs.declared.find.FindState.{FindState}
use Rattle.archive_core.specs.declared.find.FindState.TheVariants.{Image, Dsym}
use Rattle.index_format.specs.Entry.{length_in, offset_in}
use Rattle.index_lookup.specs.Among.{AreAnsweringAmong, EntryAt, IsAmong, all_of, lives_under}
use Rattle.index_lookup.specs.Told.{is_companion}
use Rattle.index_lookup.specs.declared.named.NamedSlice.{NamedSlice}

-- the SHA-256 in an entry
abbrev pub digest_at : EntryAt → List ℕ
digest_at x = take 32 (drop 25 x.entry)

-- the state of an entry's slice
abbrev pub state_at : EntryAt → FindState
state_at x = if is_companion x.entry then Dsym else Image

-- the number of bytes of an entry's slice: those of the record without its head
abbrev pub size_at : EntryAt → ℕ
size_at x = length_in x.entry - 33

-- the row is that of the entry's slice, and its key's parts have their widths
pub record IsRowAt (x : EntryAt) (row : FindRow) : Type 0 where
  pub is_key : IsKey row.key
  pub key_is : key_bytes row.key ≡ take 24 (drop 1 x.entry)
  pub digest_is : row.digest.0 ≡ digest_at x
  pub state_is : row.state ≡ state_at x

-- an entry names this slice
pub record Names (x : EntryAt) (named : NamedSlice) : Type 0 where
  pub input_is : named.input ≡ x.input
  pub number_is : named.number ≡ x.number
  pub row : IsRowAt x named.row
  pub offset_is : named.offset ≡ offset_in x.entry
  pub size_is : named.size ≡ size_at x

-- the entries that answer for this prefix, and determine the order, name these slices
pub record NamesAmong (prefix : List ℕ) (indexes : List (List (List ℕ))) (named : List NamedSlice) : Type 0 where
  pub answering : List EntryAt
  pub are : AreAnsweringAmong prefix indexes answering
  pub each : AllZip Names answering named

-- an entry of these indexes is that of a slice that is live with this prefix and has the digest
pub record LivesAmong (prefix digest : List ℕ) (indexes : List (List (List ℕ))) (x : EntryAt) : Type 0 where
  pub among : IsAmong indexes x
  pub lives : lives_under prefix (all_of indexes) x.entry ≡ true
  pub digest_is : digest_at x ≡ digest
