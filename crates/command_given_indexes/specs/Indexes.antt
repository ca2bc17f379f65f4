-- Archives with their indexes: the entries of an index, and which of the two is refused and why.
use Rattle.std.specs.Prelude.{◌≡◌, ◌≢◌, ◌+◌, ℕ, List, length, None, Err, ◌⊎◌}
use Rattle.archive_core.specs.Summary.{Entries}
use Rattle.index_format.specs.Index.{AreIndexEntries, lengths_of}
use Rattle.index_format.specs.Places.{HasIndexedLength}
use Rattle.index_format.specs.declared.index_fault.IndexFault.{IndexFault}
use Rattle.index_format.specs.declared.index_fault.IndexFaultKind.TheVariants.{OutOfMemory as IndexOutOfMemory}
use Rattle.index_format.specs.Part.{FailsToReadPart, IsPartOf}
use Rattle.index_format.specs.Reading.{ReadsIndex}
use Rattle.index_format.specs.Text.{IsIndexText, placed_of}
use Rattle.command_common.specs.Inputs.{Reader, Gives, IsUnread, IsUntouched, Unfailed}
use Rattle.command_common.specs.declared.faults.InputName.{InputName}
use Rattle.command_common.specs.declared.faults.InputName.TheVariants.{Archive, Index}
use Rattle.command_common.specs.declared.faults.Why.{Why}
use Rattle.archive_records.specs.declared.fault.RecordFaultKind.TheVariants.{Device as DeviceFailed}
use Rattle.command_common.specs.declared.faults.Why.TheVariants.{CannotOpen as NotOpened, Device as CannotRead, Record}
use Rattle.command_common.specs.declared.faults.Why.TheVariants.{Take, Script, BadFrame, OldArchive, TooLong}
use Rattle.command_common.specs.declared.faults.Why.TheVariants.{Index as IndexFaulty, Stale, Damaged, NoArchive}
use Rattle.command_common.specs.declared.faults.Why.TheVariants.{NoIndex, NoLines}

-- The input is an index with these entries, if its bytes are known.
abbrev pub HoldsTables : {S : Type 0} → Reader S → List (List ℕ) → Type 0
HoldsTables input all = Gives input (λ text. IsIndexText text all)

-- The input is an index, and these are its entries of records.
pub record HoldsIndex {S : Type 0} (input : Reader S) (entries : Entries) : Type 0 where
  pub are : AreIndexEntries entries
  pub all : List (List ℕ)
  pub holds : HoldsTables input all
  pub placed : entries ≡ placed_of all

-- The input is an index of an archive of this length, and of its entries these were read, those under these UUIDs, if
-- its bytes are known.
abbrev pub HoldsPart : {S : Type 0} → List (List ℕ) → Reader S → List (List ℕ) → ℕ → Type 0
HoldsPart uuids input all size = Gives input (λ text. IsPartOf uuids text all size)

-- why an index is not read: reading it is refused for this fault, which is not lack of memory
abbrev pub IsUnreadIndex : {S : Type 0} → Reader S → Why → Type 0
IsUnreadIndex input why =
    (fault : IndexFault) × (why ≡ IndexFaulty fault) × (fault.kind ≢ IndexOutOfMemory)
    × ReadsIndex input.left input.failures input.old input.new (Err fault)

-- why the entries of an index under UUIDs are not read: reading them is refused for this fault, which is not lack of
-- memory
abbrev pub IsUnreadPart : {S : Type 0} → Reader S → Why → Type 0
IsUnreadPart input why =
    (fault : IndexFault) × (why ≡ IndexFaulty fault) × (fault.kind ≢ IndexOutOfMemory)
    × FailsToReadPart input.left input.failures input.old input.new fault

-- why an archive is not read by its index: its device failed, and the fault has an offset that satisfies `IsRead`
abbrev pub IsUnreadAt : {S : Type 0} → (ℕ → Type 0) → Reader S → Why → Type 0
IsUnreadAt IsRead archive NotOpened = ⊥
IsUnreadAt IsRead archive CannotRead = ⊥
IsUnreadAt IsRead archive (Record fault) =
    (fault.kind ≡ DeviceFailed) × IsRead fault.offset × IsUnread archive CannotRead
IsUnreadAt IsRead archive (Take _) = ⊥
IsUnreadAt IsRead archive (Script _ _ _) = ⊥
IsUnreadAt IsRead archive (BadFrame _ _) = ⊥
IsUnreadAt IsRead archive OldArchive = ⊥
IsUnreadAt IsRead archive TooLong = ⊥
IsUnreadAt IsRead archive (IndexFaulty _) = ⊥
IsUnreadAt IsRead archive (Stale _) = ⊥
IsUnreadAt IsRead archive (Damaged _) = ⊥
IsUnreadAt IsRead archive (NoLines _) = ⊥
IsUnreadAt IsRead archive NoArchive = ⊥
IsUnreadAt IsRead archive NoIndex = ⊥

-- INDEX has these entries, and ARCHIVE has the length stated there.
pub record IsIndexOf {R S : Type 0} (index : Reader R) (archive : Reader S) (entries : Entries) : Type 0 where
  pub index_is : HoldsIndex index entries
  pub archive_is : Gives archive (HasIndexedLength entries)

-- the archive has another length than this
abbrev pub HasOtherLength : {S : Type 0} → Reader S → ℕ → Type 0
HasOtherLength archive size = Gives archive (λ text. length text ≢ size)

-- The archive with this number on the command line is refused when its length is compared with that in its index: its
-- device failed, which is reported at offset 0; or its device did not fail, and it has another length.
abbrev pub IsOfOtherLength : {S : Type 0} → ℕ → Reader S → ℕ → InputName → Why → Type 0
IsOfOtherLength number archive size at why =
    ((at ≡ Archive number) × IsUnreadAt (λ offset. offset ≡ 0) archive why)
    ⊎ ((at ≡ Index number) × Unfailed archive × (why ≡ Stale None) × HasOtherLength archive size)

-- An archive with its index, both with this number on the command line, is refused: INDEX is refused, and ARCHIVE is
-- unchanged; or INDEX has entries, its reader does not fail, and ARCHIVE is refused.
abbrev pub IsRefusedByIndex : {R S : Type 0} → ℕ → Reader R → Reader S → InputName → Why → Type 0
IsRefusedByIndex number index archive at why =
    ((at ≡ Index number) × IsUnreadIndex index why × IsUntouched archive)
    ⊎ ((entries : Entries) × HoldsIndex index entries × Unfailed index
    × IsOfOtherLength number archive (17 + lengths_of entries) at why)

-- The same, where only the entries under these UUIDs are read.
abbrev pub IsRefusedByPart : {R S : Type 0} → List (List ℕ) → ℕ → Reader R → Reader S → InputName → Why → Type 0
IsRefusedByPart uuids number index archive at why =
    ((at ≡ Index number) × IsUnreadPart index why × IsUntouched archive)
    ⊎ ((all : List (List ℕ)) × (size : ℕ) × HoldsPart uuids index all size × Unfailed index
    × IsOfOtherLength number archive size at why)
