-- An archive from which an index is made: the terms of the inner functions. Of the public functions only
-- `begin_archive` has them.
use Rattle.std.specs.Prelude.{◌≡◌, ◌≢◌, ℕ, ◌^◌, ◌≤◌, ◌<◌, List, length, Option, Result, Ok, Err}
use Rattle.std.specs.Io.KnownBytes.{Consumes}
use Rattle.archive_records.specs.Kind.{magic, old_magic}
use Rattle.archive_records.specs.declared.fault.RecordFaultKind.TheVariants.{Truncated, Device}
use Rattle.archive_records.specs.Reader.{HasStopped, StopsInMagicOf}
use Rattle.archive_records.specs.Reading.{Blames}
use Rattle.archive_records.specs.declared.kind.TextKind.TheVariants.{Archive as Archive_text}
use Rattle.index_format.specs.declared.fault.IndexingFault.{IndexingFault}
use Rattle.index_format.specs.declared.fault.IndexingFault.TheVariants.{Archive as Archive_fault, OldArchive, TooLong}

-- why reading stopped
abbrev pub HasStoppedIndexing : Option (List ℕ) → Option (List ℕ) → IndexingFault → Type 0
HasStoppedIndexing a b (Archive_fault fault) = HasStopped Archive_text a b fault
HasStoppedIndexing a b OldArchive = Consumes a b old_magic
HasStoppedIndexing a b TooLong = (bytes : List ℕ) × Consumes a b bytes × (2 ^ 64 ≤ length bytes)

-- the state of the reader after a fault
abbrev pub BlamesIndexing : {R : Type 0} → (R → Option (List ℕ)) → (R → ℕ) → R → R → IndexingFault → Type 0
BlamesIndexing left failures old new (Archive_fault fault) = Blames left failures old new fault.kind
BlamesIndexing left failures old new OldArchive = failures new ≡ failures old
BlamesIndexing left failures old new TooLong = failures new ≡ failures old

-- the result of the test of an archive's first bytes: which magic they are
abbrev pub MagicTested : List ℕ → Result (Unit {0}) IndexingFault → Type 0
MagicTested came (Ok _) = came ≡ magic
MagicTested came (Err (Archive_fault fault)) =
    (fault.offset ≡ 0) × StopsInMagicOf Archive_text came fault.kind
    × (fault.kind ≡ Truncated → length came < 8) × (fault.kind ≢ Device)
MagicTested came (Err OldArchive) = came ≡ old_magic
MagicTested came (Err TooLong) = ⊥
