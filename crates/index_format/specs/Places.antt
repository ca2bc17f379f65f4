-- The records that are read at the offsets in an index.
use Rattle.std.specs.Prelude.{◌≡◌, ℕ, ◌+◌, ◌^◌, ◌<◌, Bool, List, [], true, length, take, drop, filter}
use Rattle.std.specs.Prelude.{slice_index_or, Contains}
use Rattle.std.specs.List.{AllZip}
use Rattle.std.specs.FinSet as set
use Rattle.sha2.specs.Sha256.{sha256}
use Rattle.archive_core.specs.Record.{IsRecord, admission_record}
use Rattle.archive_core.specs.Content.{Operations, is_admission, content_of}
use Rattle.archive_core.specs.Part.{is_under}
use Rattle.archive_core.specs.Summary.{Entries}
use Rattle.byte_device.specs.Devices.{FailedIn}
use Rattle.index_format.specs.Entry.{length_in, offset_in, placed_entry}
use Rattle.index_format.specs.Index.{lengths_of}
use Rattle.index_format.specs.declared.fault.PlaceFault.{PlaceFault}
use Rattle.index_format.specs.declared.fault.PlaceFault.TheVariants.{Stale, Device, OutOfMemory}

-- The entry is that of this record. If it is an admission, the record is at its offset in the text. The entry of a
-- retirement contains the whole record.
pub record IsNamedBy (text entry record_is : List ℕ) : Type 0 where
  pub is : IsRecord record_is
  pub offset : ℕ
  pub fits : offset < 2 ^ 64
  pub entry_is : entry ≡ placed_entry offset record_is
  pub stands : is_admission record_is ≡ true → take (length record_is) (drop offset text) ≡ record_is

-- the entries with a prefix, a UUID or a key, in their order
abbrev pub entries_under : List ℕ → List (List ℕ) → List (List ℕ)
entries_under front entries = filter (is_under front) entries

-- Each entry with the prefix names one of these records, in their order, and this is their content.
pub record AreNamed (front : List ℕ) (entries : List (List ℕ)) (text : List ℕ) (p : Operations) : Type 0 where
  pub records : List (List ℕ)
  pub named : AllZip (IsNamedBy text) (entries_under front entries) records
  pub made : p ≡ content_of (set.from_list records)

-- the text has the length that the entries imply: the magic, their records and the end record
abbrev pub HasIndexedLength : Entries → List ℕ → Type 0
HasIndexedLength entries text = length text ≡ 17 + lengths_of entries

-- no slice of the content has the SHA-256 of a different slice among the records
abbrev pub TellsFound : Operations → List (List ℕ) → Type 0
TellsFound o records = (a b : List ℕ) → set.contains o (admission_record a) ≡ true
    → Contains records (admission_record b) → sha256 a ≡ sha256 b → a ≡ b

-- each entry with the prefix before this one names a record of the text
abbrev pub AreNamedBefore : List ℕ → List (List ℕ) → List ℕ → ℕ → Type 0
AreNamedBefore front entries text k =
    (j : ℕ) → j < k → is_under front (slice_index_or entries j []) ≡ true
    → (r : List ℕ) × IsNamedBy text (slice_index_or entries j []) r

-- This entry with the prefix, counted from 0 among all, names no record at its offset, and it is the first such entry.
pub record IsStale (front : List ℕ) (entries : List (List ℕ)) (text : List ℕ) (k : ℕ) : Type 0 where
  pub within : k < length entries
  pub under : is_under front (slice_index_or entries k []) ≡ true
  pub unnamed : (r : List ℕ) → IsNamedBy text (slice_index_or entries k []) r → ⊥
  pub first : AreNamedBefore front entries text k

-- of these entries, one that passes is that of an admission whose record begins at this offset
pub record IsReadAmong (passes : List ℕ → Bool) (es : List (List ℕ)) (offset : ℕ) : Type 0 where
  pub number : ℕ
  pub within : number < length es
  pub passing : passes (slice_index_or es number []) ≡ true
  pub admits : is_admission (slice_index_or es number []) ≡ true
  pub offset_is : offset ≡ offset_in (slice_index_or es number [])

-- the record of an admission whose entry has the prefix begins at this offset
abbrev pub IsReadUnder : List ℕ → List (List ℕ) → ℕ → Type 0
IsReadUnder front entries offset = IsReadAmong (is_under front) entries offset

-- Of these entries, one that passes is that of an admission whose record begins at this offset, and a read of this
-- number of bytes from there failed.
pub record FailsAmong (Fails : ℕ → ℕ → Type 0) (passes : List ℕ → Bool) (es : List (List ℕ)) (offset : ℕ)
    : Type 0 where
  pub number : ℕ
  pub within : number < length es
  pub passing : passes (slice_index_or es number []) ≡ true
  pub admits : is_admission (slice_index_or es number []) ≡ true
  pub offset_is : offset ≡ offset_in (slice_index_or es number [])
  pub fails : Fails offset (length_in (slice_index_or es number []))

-- the same for the entries with the prefix
abbrev pub FailsUnder : (ℕ → ℕ → Type 0) → List ℕ → List (List ℕ) → ℕ → Type 0
FailsUnder Fails front entries offset = FailsAmong Fails (is_under front) entries offset

-- the state of the device after a fault: it failed at an offset that is read, or it did not fail
abbrev pub BlamesPlaced : {P : Type 0} → (ℕ → Type 0) → (P → ℕ) → P → P → PlaceFault → Type 0
BlamesPlaced IsRead failures old new (Stale entry) = failures new ≡ failures old
BlamesPlaced IsRead failures old new (Device offset) = FailedIn (failures old) (failures new) × IsRead offset
BlamesPlaced IsRead failures old new OutOfMemory = failures new ≡ failures old
