-- The fault of bytes that are not a text of an archive of either version, of operations or of a summary. There is one.
use Rattle.std.specs.Prelude.{◌≡◌, ◌≢◌, ℕ, ◌+◌, ◌<◌, ◌≤◌, Bool, true, List, [], length, take}
use Rattle.std.specs.Prelude.{drop, slice_index, ◌++◌, ◌==◌, if◌then◌else◌, Result, Ok, Err, ◌⊎◌}
use Rattle.archive_core.specs.Key.{key_bytes}
use Rattle.std.specs.FinSet as set
use Rattle.archive_core.specs.Record.{IsRecord}
use Rattle.archive_core.specs.Content.{is_covered}
use Rattle.archive_core.specs.Valid.{IsValid, IsSliceFault, key_of}
use Rattle.archive_records.specs.declared.format.Format.{Format}
use Rattle.archive_records.specs.declared.format.Format.TheVariants.{Archive, Operations, Summary}
use Rattle.archive_records.specs.declared.fault.RecordFaultKind.{RecordFaultKind}
use Rattle.archive_records.specs.declared.fault.RecordFaultKind.TheVariants.{BadMagic, Truncated, BadSlice, KeyMismatch}
use Rattle.archive_records.specs.declared.fault.RecordFaultKind.TheVariants.{NotAscending, BadCount, Trailing, Device}
use Rattle.archive_records.specs.declared.fault.RecordFaultKind.TheVariants.{OutOfMemory, Covered}
use Rattle.archive_records.specs.declared.fault.RecordFault.{RecordFault}
use Rattle.archive_records.specs.Layout.{record_count, framed}
use Rattle.archive_records.specs.Kind.{magic_of, archive_format, may_follow}
use Rattle.archive_records.specs.Text.{last_of}
use Rattle.archive_records.specs.Front.{IsGoodFront, front_length}

-- the bytes begin with the tag of an end record
unfoldable pub is_end : List ℕ → Bool
is_end bytes = slice_index bytes 0 == 3

-- the tests of a whole record of n bytes after this last record, or of an end record after this number of records
unfoldable pub tested : Format → List ℕ → ℕ → List ℕ → ℕ → Result ℕ RecordFaultKind
tested file last count rest n =
    if is_end rest then (if record_count rest == count then Ok n else Err BadCount)
    else if may_follow file last (take n rest) then Ok n else Err NotAscending

abbrev pub next_by : Format → Result ℕ RecordFaultKind → List ℕ → ℕ → List ℕ → Result ℕ RecordFaultKind
next_by file (Err kind) last count rest = Err kind
next_by file (Ok n) last count rest = tested file last count rest n

-- the length of the record or end record at the front of the rest, or the first test that fails; its slice is not
-- tested
unfoldable pub next : Format → List ℕ → ℕ → List ℕ → Result ℕ RecordFaultKind
next file last count rest = next_by file (framed file rest) last count rest

-- the fault of the slice in a whole admission: it is no slice, or its key is not the key of the record
abbrev pub RefusesSlice : List ℕ → RecordFaultKind → Type 0
RefusesSlice bytes (BadSlice fault) = (slice_index bytes 0 ≡ 2) × IsSliceFault (drop 33 bytes) fault
RefusesSlice bytes KeyMismatch =
    (slice_index bytes 0 ≡ 2) × IsValid (drop 33 bytes) × (take 24 (drop 1 bytes) ≢ key_bytes (key_of (drop 33 bytes)))
RefusesSlice bytes _ = ⊥

-- the fault of the fields of a whole item; an entry has none
abbrev pub Refuses : Format → List ℕ → RecordFaultKind → Type 0
Refuses Summary bytes kind = ⊥
Refuses _ bytes kind = RefusesSlice bytes kind

-- the first test that fails at the front of the rest; these tests depend only on the last record and on the number of
-- records
abbrev pub FailsNext : Format → List ℕ → ℕ → List ℕ → RecordFaultKind → Type 0
FailsNext file last count rest kind =
    (next file last count rest ≡ Err kind)
    ⊎ ((n : ℕ) × (next file last count rest ≡ Ok n) × Refuses file (take n rest) kind)

-- The rest begins with a record that may follow these records of an archive, but a retirement among them covers it.
pub record IsCoveredNext (records : List (List ℕ)) (rest : List ℕ) : Type 0 where
  pub item : List ℕ
  pub more : List ℕ
  pub whole : rest ≡ item ++ more
  pub is : IsRecord item
  pub above : may_follow Archive (last_of [] records) item ≡ true
  pub covered : is_covered (set.from_list records) item ≡ true

-- the last test, which depends on all records before; only archives of version 2 have it
abbrev pub FailsBehind : Format → List (List ℕ) → List ℕ → RecordFaultKind → Type 0
FailsBehind Archive records rest kind = (kind ≡ Covered) × IsCoveredNext records rest
FailsBehind _ records rest kind = ⊥

-- the first test that fails at the front of the rest, after these records
abbrev pub Fails : Format → List (List ℕ) → List ℕ → RecordFaultKind → Type 0
Fails file records rest kind =
    FailsNext file (last_of [] records) (length records) rest kind ⊎ FailsBehind file records rest kind

-- the rest is the end record of this number of records, and bytes after it
pub record IsTrailing (file : Format) (last : List ℕ) (count : ℕ) (rest : List ℕ) : Type 0 where
  pub whole : next file last count rest ≡ Ok 9
  pub end : is_end rest ≡ true
  pub more : 9 < length rest

-- one of the bytes differs from the magic, or the text ends inside the magic
abbrev pub IsMagicFault : Format → List ℕ → RecordFaultKind → Type 0
IsMagicFault file text BadMagic = (n : ℕ) × (n ≤ 8) × (n ≤ length text) × (take n text ≢ take n (magic_of file))
IsMagicFault file text Truncated = (length text < 8) × (text ≡ take (length text) (magic_of file))
IsMagicFault file text _ = ⊥

-- the fault after a good front, with its offset
abbrev pub IsFaultAfter : Format → List (List ℕ) → List ℕ → RecordFault → Type 0
IsFaultAfter file records rest fault =
    (Fails file records rest fault.kind × (fault.offset ≡ front_length records))
    ⊎ ((fault.kind ≡ Trailing) × IsTrailing file (last_of [] records) (length records) rest
    × (fault.offset ≡ front_length records + 9))

-- The file does not end before the rest: a file of operations ends where nothing is left, the others after their end
-- record.
abbrev pub IsUnended : Format → List ℕ → Type 0
IsUnended Operations rest = rest ≢ []
IsUnended _ rest = Unit {0}

-- The fault of a text of this format: in the magic, or after a good front.
abbrev pub IsFaultOf : Format → List ℕ → RecordFault → Type 0
IsFaultOf file text fault =
    (IsMagicFault file text fault.kind × (fault.offset ≡ 0))
    ⊎ ((records : List (List ℕ)) × (front : IsGoodFront file text records) × IsUnended file front.rest
    × IsFaultAfter file records front.rest fault)

-- the fault of a text that should be an archive's: of the version in its first bytes
abbrev pub IsFault : List ℕ → RecordFault → Type 0
IsFault text fault = IsFaultOf (archive_format text) text fault

-- the fault of a text that should be a summary's
abbrev pub IsSummaryFault : List ℕ → RecordFault → Type 0
IsSummaryFault = IsFaultOf Summary

-- the fault of a text that should be that of operations
abbrev pub IsOperationsFault : List ℕ → RecordFault → Type 0
IsOperationsFault = IsFaultOf Operations

-- The bytes have no fault as a text of this format, except that they may end too early.
abbrev pub IsCutAtMost : Format → List ℕ → Type 0
IsCutAtMost file bytes = (fault : RecordFault) → IsFaultOf file bytes fault → fault.kind ≡ Truncated

-- a fault of the text itself: neither a failed device nor `OutOfMemory`
abbrev pub IsOfText : RecordFaultKind → Type 0
IsOfText kind = (kind ≢ Device) × (kind ≢ OutOfMemory)
