-- The entries of a summary, one for each operation of a content.
use Rattle.std.specs.Prelude.{◌≡◌, ℕ, List, ◌∷◌, ◌++◌, length, slice_index, true, ◌⊎◌}
use Rattle.std.specs.FinSet as set
use Rattle.archive_core.specs.Key.{key_bytes}
use Rattle.archive_core.specs.Summary.{Entries}
use Rattle.archive_records.specs.declared.entry.Entry.{Entry}
use Rattle.archive_records.specs.declared.entry.Entry.TheVariants.{Retirement, Admission}

-- the bytes of an entry: its tag, the key and the digest
abbrev pub entry_bytes : Entry → List ℕ
entry_bytes (Retirement key digest) = 1 ∷ (key_bytes key ++ digest.0)
entry_bytes (Admission key digest) = 2 ∷ (key_bytes key ++ digest.0)

-- the bytes are an entry: tag 1 for a retirement or tag 2 for an admission, then the 56 bytes of a key and a digest
pub record IsEntry (bytes : List ℕ) : Type 0 where
  pub tag : (slice_index bytes 0 ≡ 1) ⊎ (slice_index bytes 0 ≡ 2)
  pub long : length bytes ≡ 57

-- a summary: each member is an entry
abbrev pub AreEntries : Entries → Type 0
AreEntries s = (bytes : List ℕ) → set.contains s bytes ≡ true → IsEntry bytes
