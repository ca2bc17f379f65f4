-- A slice that is kept in a content.
use Rattle.std.specs.Prelude.{◌≡◌, ◌<◌, ℕ, List, [], length, slice_index_or}
use Rattle.std.specs.FinSet as set
use Rattle.sha2.specs.Sha256.{sha256}
use Rattle.join_core.specs.Listing.{listing}
use Rattle.archive_core.specs.Content.{Operations}
use Rattle.archive_core.specs.Key.{key_bytes}
use Rattle.archive_core.specs.Record.{admission_record}
use Rattle.archive_core.specs.Valid.{key_of}
use Rattle.archive_core.specs.declared.keys.Digest.{Digest}
use Rattle.archive_core.specs.declared.keys.SliceKey.{SliceKey}
use Rattle.command_common.specs.Outputs.{Writer}
use Rattle.command_extract.specs.Extract.{Extraction}
use Rattle.command_extract.specs.Wanted.{line_of}

-- The record with this number in a content admits the slice, and its key has its width.
pub record IsAdmittedAt (o : Operations) (number : ℕ) (slice : List ℕ) : Type 0 where
  pub within : number < set.len o
  pub record_is : slice_index_or (listing o) number [] ≡ admission_record slice
  pub long : length (key_bytes (key_of slice)) ≡ 24

-- The record with this number admits the slice, which has this SHA-256 and length.
pub record IsChosenIn (o : Operations) (number : ℕ) (digest : Digest) (size : ℕ) (slice : List ℕ) : Type 0 where
  pub admitted : IsAdmittedAt o number slice
  pub digest_is : digest.0 ≡ sha256 slice
  pub size_is : size ≡ length slice

-- The slice at this number is the one that the command makes, with its line, and no reader failed.
pub record KeepsWanted (command : Writer → Extraction) (key : SliceKey) (o : Operations) (number : ℕ) (digest : Digest)
    (size : ℕ) : Type 0 where
  pub slice : List ℕ
  pub chosen : IsChosenIn o number digest size slice
  pub makes : (draft : Writer) → (command draft).writes.Makes slice (line_of key digest size)
  pub unfailed : (draft : Writer) → (command draft).writes.Unfailed
