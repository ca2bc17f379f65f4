-- The records that an index names under several prefixes of keys.
use Rattle.std.specs.Prelude.{◌≡◌, ◌≢◌, ◌<◌, ◌⊎◌, ℕ, List, [], Option, Some, None, length, take, slice_get, slice_index_or}
use Rattle.std.specs.List.{AllZip}
use Rattle.archive_core.specs.Content.{Operations}
use Rattle.archive_core.specs.Key.{key_bytes}
use Rattle.byte_device.specs.Devices.{FailsWithin}
use Rattle.index_format.specs.Places.{AreNamed, FailsUnder, IsReadUnder, IsStale}
use Rattle.index_format.specs.Text.{placed_in}
use Rattle.command_common.specs.Inputs.{Reader, Gives}
use Rattle.command_common.specs.declared.faults.CommandFault.{CommandFault}
use Rattle.command_common.specs.declared.faults.CommandFault.TheVariants.{Input}
use Rattle.command_common.specs.declared.faults.InputName.TheVariants.{Archive}
use Rattle.command_common.specs.declared.faults.Why.TheVariants.{Record}
use Rattle.command_given_indexes.specs.declared.prefixes.KeyPrefix.{KeyPrefix}
use Rattle.command_given_indexes.specs.declared.prefixes.KeyPrefix.TheVariants.{Uuid, Key}

-- the first bytes of keys
abbrev pub prefix_bytes : KeyPrefix → List ℕ
prefix_bytes (Uuid uuid) = uuid
prefix_bytes (Key key) = key_bytes key

-- for each of these prefixes, in order, the records of the text that the entries under it name make one of these
-- contents
abbrev pub AreNamedUnder : List (List ℕ) → List (List ℕ) → List ℕ → List Operations → Type 0
AreNamedUnder prefixes entries text parts = AllZip (λ prefix part. AreNamed prefix entries text part) prefixes parts

-- at the first of these prefixes with an entry that names no record of the text, it is this entry
abbrev pub IsUnnamedUnder : List (List ℕ) → List (List ℕ) → List ℕ → ℕ → Type 0
IsUnnamedUnder prefixes entries text entry =
    (number : ℕ) × (number < length prefixes)
    × ((parts : List Operations) × AreNamedUnder (take number prefixes) entries text parts)
    × IsStale (slice_index_or prefixes number []) entries text entry

-- Why no records are named so: the text has another length than this; or it has this length, and this entry names no
-- record of it.
abbrev pub IsStaleUnder : List (List ℕ) → List (List ℕ) → ℕ → List ℕ → Option ℕ → Type 0
IsStaleUnder prefixes entries size text None = length text ≢ size
IsStaleUnder prefixes entries size text (Some entry) = (length text ≡ size) × IsUnnamedUnder prefixes entries text entry

-- the record of an admission whose entry is under one of these prefixes begins at this offset
abbrev pub IsReadUnderOne : List (List ℕ) → List (List ℕ) → ℕ → Type 0
IsReadUnderOne prefixes entries offset =
    (number : ℕ) × (number < length prefixes) × IsReadUnder (slice_index_or prefixes number []) entries offset

-- where an archive is read by its index: its length is read, at offset 0, or such a record is read
abbrev pub IsReadFor : List (List ℕ) → List (List ℕ) → ℕ → Type 0
IsReadFor prefixes entries offset = (offset ≡ 0) ⊎ IsReadUnderOne prefixes entries offset

-- for each of these prefixes, the records of ARCHIVE that the entries under it name make one of these contents
abbrev pub HoldsNamed : {S : Type 0} → List (List ℕ) → Reader S → List (List ℕ) → List Operations → Type 0
HoldsNamed prefixes archive entries parts = Gives archive (λ text. AreNamedUnder prefixes entries text parts)

-- the archive has this length
abbrev pub HasLength : {S : Type 0} → Reader S → ℕ → Type 0
HasLength archive size = Gives archive (λ text. length text ≡ size)

-- the index, which tells this length, is not of this archive, as far as these prefixes show
abbrev pub IsStaleFor : {S : Type 0} → List (List ℕ) → Reader S → List (List ℕ) → ℕ → Option ℕ → Type 0
IsStaleFor prefixes archive entries size entry = Gives archive (λ text. IsStaleUnder prefixes entries size text entry)

-- ---- which read failed

-- a read of the record of an entry under one of these prefixes failed; the record begins at this offset
abbrev pub FailsUnderOne : (ℕ → ℕ → Type 0) → List (List ℕ) → List (List ℕ) → ℕ → Type 0
FailsUnderOne Fails prefixes entries offset =
    (number : ℕ) × (number < length prefixes) × FailsUnder Fails (slice_index_or prefixes number []) entries offset

-- where the device of an archive that was read by its index failed: at its length, offset 0, or in such a record
abbrev pub FailsFor : Type 0 → (ℕ → ℕ → Type 0) → List (List ℕ) → List (List ℕ) → ℕ → Type 0
FailsFor IsUnmeasured Fails prefixes entries offset =
    ((offset ≡ 0) × IsUnmeasured) ⊎ FailsUnderOne Fails prefixes entries offset

-- The device of the archive with this number failed so between the two states.
pub record FailsAt {P : Type 0} (whole : P → Option (List ℕ)) (failures : P → ℕ) (unread : P → P → ℕ → Type 0)
    (unmeasured : P → P → Type 0) (prefixes : List (List ℕ)) (olds news : List P) (all : List (List (List ℕ)))
    (number offset : ℕ) : Type 0 where
  pub old : P
  pub new : P
  pub entries : List (List ℕ)
  pub old_is : slice_get olds number ≡ Some old
  pub new_is : slice_get news number ≡ Some new
  pub entries_are : slice_get all number ≡ Some entries
  pub fails : FailsFor (unmeasured old new) (FailsWithin whole failures unread old new) prefixes (placed_in entries)
      offset

-- a refusal for the device of an archive has the number of the archive and the offset of the failed read
abbrev pub TellsPlace : (ℕ → ℕ → Type 0) → CommandFault → Type 0
TellsPlace IsThere (Input (Archive number) (Record fault)) = IsThere number fault.offset
TellsPlace IsThere _ = Unit {0}
