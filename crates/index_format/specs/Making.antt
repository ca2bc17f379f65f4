-- Why no index is made from an archive.
use Rattle.std.specs.Prelude.{◌≡◌, ◌≢◌, ℕ, ◌^◌, ◌≤◌, List, length, take, Option, IfSome}
use Rattle.std.specs.Io.KnownBytes.{Consumes}
use Rattle.archive_core.specs.Content.{Operations, IsContent}
use Rattle.archive_records.specs.Kind.{old_magic}
use Rattle.archive_records.specs.Text.{IsArchiveOf}
use Rattle.archive_records.specs.Reading.{IsRefused, IsOfMachine}
use Rattle.archive_records.specs.declared.kind.TextKind.TheVariants.{Archive}
use Rattle.index_format.specs.declared.fault.IndexingFault.{IndexingFault}
use Rattle.index_format.specs.declared.fault.IndexingFault.TheVariants.{Archive as Archive_fault, OldArchive, TooLong}

-- Why no index is made: the text is refused, as by any reader of archives; it has version 1, and only its magic was
-- consumed; or the offset of a record does not fit into eight bytes.
abbrev pub RefusesToIndex : {R : Type 0} → (R → Option (List ℕ)) → (R → ℕ) → R → R → IndexingFault → Type 0
RefusesToIndex left failures old new (Archive_fault fault) =
    IsRefused Archive left failures old new fault
    × IfSome (left old) (λ text. (o : Operations) → IsContent o → IsArchiveOf o text → IsOfMachine fault.kind)
RefusesToIndex left failures old new OldArchive =
    Consumes (left old) (left new) old_magic × (failures new ≡ failures old)
RefusesToIndex left failures old new TooLong =
    ((bytes : List ℕ) × Consumes (left old) (left new) bytes × (2 ^ 64 ≤ length bytes))
    × (failures new ≡ failures old)

-- A text that begins as an archive of version 1 is refused as such, whatever follows, except for faults outside the
-- text.
abbrev pub TellsVersion : Option (List ℕ) → IndexingFault → Type 0
TellsVersion left (Archive_fault fault) = IfSome left (λ text. take 8 text ≡ old_magic → IsOfMachine fault.kind)
TellsVersion left OldArchive = Unit {0}
TellsVersion left TooLong = IfSome left (λ text. take 8 text ≢ old_magic)
