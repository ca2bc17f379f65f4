-- The slice that is wanted by the entries of indexes, and its bytes at its offset in its archive.
use Rattle.std.specs.Prelude.{◌≡◌, ◌≢◌, ◌<◌, ◌≤◌, ◌+◌, ◌⊎◌, ℕ, List, [], ◌∷◌, length, take, drop, Option, Some, None}
use Rattle.std.specs.Io.KnownBytes.{Appends}
use Rattle.sha2.specs.Sha256.{sha256}
use Rattle.byte_device.specs.Devices.{FailedIn}
use Rattle.archive_core.specs.Key.{key_bytes}
use Rattle.archive_core.specs.declared.keys.Digest.{Digest}
use Rattle.archive_core.specs.declared.keys.SliceKey.{SliceKey}
use Rattle.index_format.specs.Entry.{offset_in}
use Rattle.command_common.specs.Inputs.{Gives, Reader, Unfailed}
use Rattle.command_common.specs.Outputs.{Takes, Writer}
use Rattle.command_common.specs.declared.faults.CommandFault.{CommandFault}
use Rattle.command_common.specs.declared.faults.CommandFault.TheVariants.{Input, Output, Report, OutOfMemory}
use Rattle.command_common.specs.declared.faults.InputName.{InputName}
use Rattle.command_common.specs.declared.faults.InputName.TheVariants.{Archive, Index}
use Rattle.command_common.specs.declared.faults.Why.{Why}
use Rattle.command_common.specs.declared.faults.Why.TheVariants.{Stale}
use Rattle.index_lookup.specs.Among.{AreAnsweringAmong, EntryAt}
use Rattle.index_lookup.specs.Named.{LivesAmong, digest_at, size_at}
use Rattle.command_given_indexes.specs.Indexes.{IsUnreadAt}

-- the entry is that of the wanted slice: the only one that answers; or a live one under the key with the digest
abbrev pub IsChosen : SliceKey → Option Digest → List (List (List ℕ)) → EntryAt → Type 0
IsChosen key None all x = AreAnsweringAmong (key_bytes key) all (x ∷ [])
IsChosen key (Some digest) all x = LivesAmong (key_bytes key) digest.0 all x

-- no entry is: these answer, and there are none or several; or no live one has the digest, and there are none
abbrev pub AreUnchosen : SliceKey → Option Digest → List (List (List ℕ)) → List EntryAt → Type 0
AreUnchosen key None all xs = AreAnsweringAmong (key_bytes key) all xs × (length xs ≢ 1)
AreUnchosen key (Some digest) all xs =
    (xs ≡ []) × ((x : EntryAt) → LivesAmong (key_bytes key) digest.0 all x → ⊥)

-- The bytes have the length in the entry, which is not 0, and the SHA-256 in it.
pub record IsSliceOf (x : EntryAt) (slice : List ℕ) : Type 0 where
  pub some : 0 < length slice
  pub long : length slice ≡ size_at x
  pub digest_is : sha256 slice ≡ digest_at x

-- the text has the bytes at the offset in the entry, after the head of the record
abbrev pub StandFor : EntryAt → List ℕ → List ℕ → Type 0
StandFor x bytes text = take (length bytes) (drop (offset_in x.entry + 33) text) ≡ bytes

-- ARCHIVE has the slice of the entry there.
pub record HoldsSlice {P : Type 0} (archive : Reader P) (x : EntryAt) (slice : List ℕ) : Type 0 where
  pub of : IsSliceOf x slice
  pub stands : Gives archive (StandFor x slice)

-- ARCHIVE does not have the slice of the entry there
abbrev pub HoldsOther : {P : Type 0} → Reader P → EntryAt → Type 0
HoldsOther archive x = Gives archive (λ text. (slice : List ℕ) → IsSliceOf x slice → StandFor x slice text → ⊥)

-- ARCHIVE is refused while its slice is sent: it is not open; or its device failed, which is reported at the record; or
-- its device did not fail, and it has other bytes
abbrev pub IsRefusedSlice : {P : Type 0} → Reader P → EntryAt → InputName → Why → Type 0
IsRefusedSlice archive x at why =
    ((at ≡ Archive x.input) × IsUnreadAt (λ offset. offset ≡ offset_in x.entry) archive why)
    ⊎ ((at ≡ Index x.input) × (why ≡ Stale (Some x.number)) × Unfailed archive × HoldsOther archive x)

-- why a slice was not sent, of which the draft has `sent` bytes: ARCHIVE is refused, or the draft failed, or memory ran
-- out before the draft was created
abbrev pub Hinders : {P : Type 0} → Reader P → EntryAt → Writer → ℕ → CommandFault → Type 0
Hinders archive x draft sent (Input at why) =
    IsRefusedSlice archive x at why × (draft.failures_new ≡ draft.failures_old)
Hinders archive x draft sent (Output n) =
    (n ≡ sent) × (sent < size_at x) × Unfailed archive × FailedIn draft.failures_old draft.failures_new
Hinders archive x draft sent (Report n) = ⊥
Hinders archive x draft sent OutOfMemory = Unfailed archive × Takes draft []

-- A slice was not sent. The draft has these bytes, which are at its offset; it has none unless the slice of the entry
-- was found there before.
pub record StopsSlice {P : Type 0} (archive : Reader P) (x : EntryAt) (draft : Writer) (fault : CommandFault)
    : Type 0 where
  pub bytes : List ℕ
  pub took : Appends draft.old draft.new bytes
  pub within : length bytes ≤ size_at x
  pub stand : bytes ≢ [] → Gives archive (StandFor x bytes)
  pub held_back : bytes ≢ [] → (slice : List ℕ) × HoldsSlice archive x slice
  pub hinders : Hinders archive x draft (length bytes) fault
