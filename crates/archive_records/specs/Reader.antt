-- Records that are read from a source into one buffer, each over the last: the terms of the inner functions, and of
-- those that read record by record, such as `RecordReader` and `FromRecords`.
use Rattle.std.specs.Prelude.{◌≡◌, ◌≢◌, ℕ, ◌+◌, ◌*◌, ◌^◌, ◌<◌, ◌≤◌, Bool, true, false, List, [], ◌∷◌, ◌++◌, length}
use Rattle.std.specs.Prelude.{take, drop, Option, Some, None, Result, Ok, Err, MatchResult, ◌⊎◌, ◌==◌, ◌&&◌}
use Rattle.std.specs.Prelude.{if◌then◌else◌, slice_index}
use Rattle.std.specs.List.{concat, AllByRecursion}
use Rattle.std.specs.List.Sorted.{IsStrictlySortedBy}
use Rattle.std.specs.declared.cmp.Ordering.{Ordering}
use Rattle.std.specs.declared.cmp.Ordering.TheVariants.{Equal}
use Rattle.std.specs.Ordering.{nat_cmp}
use Rattle.std.specs.Cmp.Lexicographic.{slice_cmp}
use Rattle.std.specs.FinSet as set
use Rattle.std.specs.Io.KnownBytes.{Consumes, IsAtEnd}
use Rattle.byte_device.specs.declared.Failed.{Failed}
use Rattle.byte_device.specs.Devices.{CountsFailure}
use Rattle.archive_core.specs.declared.slices.SliceFacts.{SliceFacts}
use Rattle.archive_core.specs.Valid.{IsCheckedOf}
use Rattle.archive_core.specs.Record.{IsRecord, Admits, Retires, admission_record}
use Rattle.archive_core.specs.Content.{Operations, IsMade, is_covered}
use Rattle.archive_records.specs.declared.format.Format.{Format}
use Rattle.archive_records.specs.declared.format.Format.TheVariants.{Archive, OldArchive, Operations as Operations_file}
use Rattle.archive_records.specs.declared.kind.TextKind.{TextKind}
use Rattle.archive_records.specs.declared.kind.TextKind.TheVariants.{Archive as Archive_text, Summary as Summary_text}
use Rattle.archive_records.specs.declared.buffer.Buffer.{Buffer}
use Rattle.archive_records.specs.declared.next.NextRecord.{NextRecord}
use Rattle.archive_records.specs.declared.next.NextRecord.TheVariants.{End, Item}
use Rattle.archive_records.specs.declared.fault.RecordFaultKind.{RecordFaultKind}
use Rattle.archive_records.specs.declared.fault.RecordFaultKind.TheVariants.{Truncated, Trailing, Device}
use Rattle.archive_records.specs.declared.fault.RecordFaultKind.TheVariants.{OutOfMemory, Covered}
use Rattle.archive_records.specs.declared.fault.RecordFault.{RecordFault}
use Rattle.archive_records.specs.Entry.{IsEntry}
use Rattle.archive_records.specs.Kind.{magic_of, kind_of, IsItem, may_follow}
use Rattle.archive_records.specs.Layout.{framed, head_length}
use Rattle.archive_records.specs.Text.{end_record, ending, text_of, InOrder, AreApart, last_of, taken_of}
use Rattle.archive_records.specs.Fault.{is_end, next, FailsNext, Fails, IsTrailing, IsMagicFault, IsUnended}
use Rattle.archive_records.specs.Fault.{IsCutAtMost, IsOfText}
use Rattle.archive_records.specs.Front.{front_length}
use Rattle.archive_records.specs.Reading.{Blames, IsOfMachine}

-- the bytes of the next record that were read
abbrev pub bytes_so_far : Buffer → List ℕ
bytes_so_far b = take b.at b.bytes.items

-- The order compares the front of the last record with the bytes that were read; while these are equal, the rest of the
-- last record follows them in the buffer.
pub record Over (last : List ℕ) (b : Buffer) : Type 0 where
  pub rest : b.order ≡ Equal → drop b.at b.bytes.items ≡ drop b.at last
  pub order : b.order ≡ slice_cmp nat_cmp (take b.at last) (bytes_so_far b)

-- The buffer grew by the bytes that were consumed from the source and holds them all; if it was over a last record
-- before, it still is.
pub record Fills (left_old left_new : Option (List ℕ)) (old new : Buffer) : Type 0 where
  pub within : new.at ≤ length new.bytes.items
  pub more : List ℕ
  pub grows : bytes_so_far new ≡ bytes_so_far old ++ more
  pub taken : Consumes left_old left_new more
  pub over : (last : List ℕ) → Over last old → Over last new

-- This number of bytes was added, at most `most`: zero only if the source is at its end, or if `most` is zero.
pub record IsPiece (most : ℕ) (left : Option (List ℕ)) (old new : Buffer) (count : ℕ) : Type 0 where
  pub at_is : new.at ≡ old.at + count
  pub bound : count ≤ most
  pub end : count ≡ 0 → 0 < most → IsAtEnd left

-- The result of pulling a piece of a record, of at most `most` bytes, into a buffer.
pub record Pulls {R : Type 0} (left : R → Option (List ℕ)) (failures : R → ℕ) (old new : R) (before after : Buffer)
    (most : ℕ) (result : Result ℕ Failed) : Type 0 where
  pub fills : Fills (left old) (left new) before after
  pub piece : MatchResult result (IsPiece most (left new) before after) (λ _. after.at ≡ before.at)
  pub count : CountsFailure (failures old) (failures new) result

-- The fault that the bytes read so far have: after a failed device and after `OutOfMemory` they are a part of a record.
abbrev pub seen_as : RecordFaultKind → RecordFaultKind
seen_as Device = Truncated
seen_as OutOfMemory = Truncated
seen_as kind = kind

-- The state of the reader after a result: after a success it did not fail, after a fault the fault says whether it did.
abbrev pub BlamesReader : {R T : Type 0} → (R → Option (List ℕ)) → (R → ℕ) → R → R → Result T RecordFaultKind → Type 0
BlamesReader left failures old new result =
    MatchResult result (λ _. failures new ≡ failures old) (Blames left failures old new)

-- the same for a fault with its offset
abbrev pub FaultBlamesReader : {R T : Type 0} → (R → Option (List ℕ)) → (R → ℕ) → R → R → Result T RecordFault → Type 0
FaultBlamesReader left failures old new result =
    MatchResult result (λ _. failures new ≡ failures old) (λ fault. Blames left failures old new fault.kind)

-- The buffer holds the head of a record of such a file, and nothing after it: it has this length.
pub record IsHead (file : Format) (buffer : Buffer) (head : ℕ) : Type 0 where
  pub tag : head_length file (slice_index (bytes_so_far buffer) 0) ≡ Some head
  pub at_is : buffer.at ≡ head
  pub long : 8 < head

-- why the magic was not read, with the bytes that were read instead
abbrev pub StopsInMagic : Format → List ℕ → RecordFaultKind → Type 0
StopsInMagic file bytes kind =
    IsMagicFault file bytes kind
    ⊎ ((kind ≡ Device) × (length bytes < 8))
    ⊎ ((kind ≡ OutOfMemory) × (length bytes < 8))

-- the same for each format of the kind, so for the one by which the bytes are read
abbrev pub StopsInMagicOf : TextKind → List ℕ → RecordFaultKind → Type 0
StopsInMagicOf file bytes kind = (format : Format) → kind_of format ≡ file → StopsInMagic format bytes kind

-- the facts of a record: a retirement has no slice, and the slice of an admission was checked
abbrev pub IsFound : List ℕ → Option SliceFacts → Type 0
IsFound bytes None = Retires bytes
IsFound bytes (Some facts) = Admits bytes × IsCheckedOf (drop 33 bytes) facts

-- the same for the bytes that were read last, if they are a record
abbrev pub IsFoundOfLast : List ℕ → Option SliceFacts → Type 0
IsFoundOfLast last None = IsRecord last → Retires last
IsFoundOfLast last (Some facts) = IsFound last (Some facts)

-- the same for an item of such a file; an entry has no slice
abbrev pub IsFoundIn : TextKind → List ℕ → Option SliceFacts → Type 0
IsFoundIn Summary_text item found = IsEntry item × (found ≡ None)
IsFoundIn _ item found = IsFound item found

-- a file without an end record ends with the input
abbrev pub IsEnded : Format → Option (List ℕ) → Type 0
IsEnded Operations_file left = IsAtEnd left
IsEnded _ left = Unit {0}

-- The buffer holds exactly the next item or end record after the last record.
pub record HoldsNext (file : Format) (last : List ℕ) (count : ℕ) (buffer : Buffer) : Type 0 where
  pub is_next : next file last count (bytes_so_far buffer) ≡ Ok (length (bytes_so_far buffer))
  pub whole : buffer.bytes.items ≡ bytes_so_far buffer

-- the bytes are the end record, or an item with these facts
abbrev pub IsStep : Format → ℕ → List ℕ → NextRecord → Type 0
IsStep file count bytes End = (is_end bytes ≡ true) × (bytes ≡ end_record count)
IsStep file count bytes (Item found) = IsFoundIn (kind_of file) bytes found

-- The buffer holds exactly an item that may follow the last record, and these are its facts.
pub record HoldsItem (file : Format) (last : List ℕ) (buffer : Buffer) (found : Option SliceFacts) : Type 0 where
  pub whole : buffer.bytes.items ≡ bytes_so_far buffer
  pub found_is : IsFoundIn (kind_of file) (bytes_so_far buffer) found
  pub follows : may_follow file last (bytes_so_far buffer) ≡ true

-- the buffer and the source after a step: at the end of the file, or after one more item
abbrev pub StepsTo : Format → List ℕ → ℕ → Option (List ℕ) → Buffer → NextRecord → Type 0
StepsTo file last count left buffer End = (bytes_so_far buffer ≡ ending file count) × IsEnded file left
StepsTo file last count left buffer (Item found) = HoldsItem file last buffer found

-- The position of a reader of records: the format, the last record, the numbers of records and of bytes, the
-- retirements of an archive, and whether the last record is dropped.
pub record Position : Type 0 where
  pub file : Format
  pub last : List ℕ
  pub count : ℕ
  pub offset : ℕ
  pub retired : List (List ℕ)
  pub dropped : Bool

-- the set of these records
abbrev pub set_of : List (List ℕ) → Operations
set_of records = set.from_list records

-- The retirements for one of several readers that share some: the shared ones, if any, and its own.
abbrev pub with_shared : Option (List (List ℕ)) → List (List ℕ) → List (List ℕ)
with_shared None own = own
with_shared (Some shared) own = shared ++ own

-- the position of a reader with its shared retirements counted as its own
abbrev pub beside : Option (List (List ℕ)) → Position → Position
beside shared position = record position { retired = with_shared shared position.retired }

-- the last record; if its slice was moved out of the reader, the admission of that slice
abbrev pub last_after : Option (List ℕ) → List ℕ → List ℕ
last_after None last = last
last_after (Some slice) last = admission_record slice

-- how the last record compares with the whole record in the buffer
abbrev pub order_after : Option (List ℕ) → Buffer → Ordering
order_after None buffer = buffer.order
order_after (Some slice) buffer = slice_cmp nat_cmp (admission_record slice) buffer.bytes.items

-- the position of a reader with that as its last record
abbrev pub after_taken : Option (List ℕ) → Position → Position
after_taken taken position = record position { last = last_after taken position.last }

-- the bytes, if they have the length of a retirement and its tag
abbrev pub retirement_in : List ℕ → Option (List ℕ)
retirement_in bytes = if length bytes == 57 && slice_index bytes 0 == 1 then Some bytes else None

-- Both sets have the same retirements: their tag is 1.
abbrev pub RetireAlike : Operations → Operations → Type 0
RetireAlike o p = (r : List ℕ) → set.contains o (1 ∷ r) ≡ set.contains p (1 ∷ r)

-- The flag says whether one of the retirements covers the record, and the record was added if it is a retirement.
pub record Keeps (old new : List (List ℕ)) (covered : Bool) (item : List ℕ) : Type 0 where
  pub tells : is_covered (set_of old) item ≡ covered
  pub alike : RetireAlike (set_of new) (set.insert (set_of old) item)

-- The same for an item of such a file. A covered slice is dropped in an archive of version 1, and is a fault in one of
-- version 2; the other formats have no such test.
abbrev pub KeepsIn : Format → List (List ℕ) → List (List ℕ) → Bool → List ℕ → Type 0
KeepsIn Archive old new dropped item = Keeps old new dropped item × (dropped ≡ false)
KeepsIn OldArchive old new dropped item = Keeps old new dropped item
KeepsIn _ old new dropped item = dropped ≡ false

-- the retirements among the records of an archive
abbrev pub AreRetired : Format → List (List ℕ) → List (List ℕ) → Type 0
AreRetired Archive retired records = RetireAlike (set_of retired) (set_of records)
AreRetired OldArchive retired records = RetireAlike (set_of retired) (set_of records)
AreRetired _ retired records = Unit {0}

-- the flag says whether a retirement among the records of an archive covers the last of them
abbrev pub DropsLast : Format → Bool → List (List ℕ) → Type 0
DropsLast Archive dropped records = dropped ≡ is_covered (set_of records) (last_of [] records)
DropsLast OldArchive dropped records = dropped ≡ is_covered (set_of records) (last_of [] records)
DropsLast _ dropped records = dropped ≡ false

-- the bounds of a reader: a piece has room for at least one byte, and the numbers of records and of bytes are limited
pub record Bounds (room count offset : ℕ) : Type 0 where
  pub some : 0 < room
  pub few : count < 2 ^ 63
  pub fits : offset ≤ 8 + count * 2 ^ 64

-- One more item was read.
pub record Passes (a b : Option (List ℕ)) (before after : Position) : Type 0 where
  pub taken : Consumes a b after.last
  pub item : IsItem before.file after.last
  pub follows : may_follow before.file before.last after.last ≡ true
  pub file_is : after.file ≡ before.file
  pub count_is : after.count ≡ before.count + 1
  pub offset_is : after.offset ≡ before.offset + length after.last
  pub few : after.count < 2 ^ 63
  pub kept : KeepsIn before.file before.retired after.retired after.dropped after.last

-- The end of the file was read.
pub record Finishes (a b : Option (List ℕ)) (before after : Position) : Type 0 where
  pub taken : Consumes a b (ending before.file before.count)
  pub ended : IsEnded before.file b
  pub file_is : after.file ≡ before.file
  pub count_is : after.count ≡ before.count
  pub offset_is : after.offset ≡ before.offset
  pub few : before.count < 2 ^ 63
  pub retired_is : after.retired ≡ before.retired

-- The bytes are a record that may follow, but a retirement before it covers it.
pub record IsCoveredThere (before : Position) (rest : List ℕ) (kind : RecordFaultKind) : Type 0 where
  pub kind_is : kind ≡ Covered
  pub file_is : before.file ≡ Archive
  pub item : IsRecord rest
  pub follows : may_follow Archive before.last rest ≡ true
  pub covered : is_covered (set_of before.retired) rest ≡ true

-- The bytes are an item that may follow, and if coverage is a fault, no retirement before it covers it.
pub record IsWholeThere (before : Position) (rest : List ℕ) : Type 0 where
  pub item : IsItem before.file rest
  pub follows : may_follow before.file before.last rest ≡ true
  pub uncovered : before.file ≡ Archive → is_covered (set_of before.retired) rest ≡ false

-- The reader stopped: the bytes are neither an item of the file that may follow nor the end of the file, or memory ran
-- out within an item or after a whole one.
pub record StopsAt (a b : Option (List ℕ)) (before : Position) (fault : RecordFault) : Type 0 where
  pub rest : List ℕ
  pub taken : Consumes a b rest
  pub unended : IsOfText fault.kind → IsUnended before.file rest
  pub fails : fault.kind ≢ OutOfMemory → FailsNext before.file before.last before.count rest (seen_as fault.kind)
      ⊎ IsCoveredThere before rest fault.kind
  pub wanted : fault.kind ≡ OutOfMemory → FailsNext before.file before.last before.count rest Truncated
      ⊎ IsWholeThere before rest
  pub offset_is : fault.offset ≡ before.offset
  pub few : before.count < 2 ^ 63

-- If memory ran out, the last record is the item that was read, if it is whole; otherwise it is empty, since only a
-- part of an item was read.
abbrev pub HasWhole : Format → List ℕ → List ℕ → Type 0
HasWhole file rest last =
    (IsItem file rest × (last ≡ rest)) ⊎ ((framed file rest ≡ Err Truncated) × (last ≡ []))

-- The result of one step: the end of the file, one more item, or the fault.
abbrev pub Advances : {R : Type 0} → (R → Option (List ℕ)) → (R → ℕ) → R → R → Position → Position
    → Result NextRecord RecordFault → Type 0
Advances left failures old new before after (Ok End) =
    Finishes (left old) (left new) before after × (failures new ≡ failures old)
Advances left failures old new before after (Ok (Item found)) =
    Passes (left old) (left new) before after × (failures new ≡ failures old)
    × IsFoundIn (kind_of before.file) after.last found
Advances left failures old new before after (Err fault) =
    (stop : StopsAt (left old) (left new) before fault) × Blames left failures old new fault.kind
    × (fault.kind ≡ OutOfMemory → HasWhole before.file stop.rest after.last)

-- The magic and these records were read, and nothing after them.
pub record HasRead (file : Format) (a b : Option (List ℕ)) (records : List (List ℕ))
    (position : Position) : Type 0 where
  pub file_is : position.file ≡ file
  pub taken : Consumes a b (magic_of file ++ concat records)
  pub ordered : InOrder file [] records
  pub apart : AreApart file records
  pub last_is : position.last ≡ last_of [] records
  pub count_is : position.count ≡ length records
  pub offset_is : position.offset ≡ front_length records
  pub retired_are : AreRetired file position.retired records
  pub dropped_is : DropsLast file position.dropped records

-- The magic, these records and the end of the file were read, and nothing after it.
pub record HasReadAll (file : Format) (a b : Option (List ℕ)) (records : List (List ℕ))
    (position : Position) : Type 0 where
  pub taken : Consumes a b (text_of file records)
  pub ordered : InOrder file [] records
  pub apart : AreApart file records
  pub few : length records < 2 ^ 63
  pub ended : IsEnded file b
  pub offset_is : position.offset ≡ front_length records
  pub retired_are : AreRetired file position.retired records

-- the bytes after the records, and the fault there
abbrev pub Stops : Format → List (List ℕ) → List ℕ → RecordFault → Type 0
Stops file records rest fault =
    ((fault.offset ≡ front_length records) × (fault.kind ≢ OutOfMemory → Fails file records rest (seen_as fault.kind)))
    ⊎ ((fault.kind ≡ Trailing) × IsTrailing file (last_of [] records) (length records) rest
    × (fault.offset ≡ front_length records + 9))
    ⊎ ((fault.kind ≡ Device) × (rest ≡ end_record (length records)) × (fault.offset ≡ front_length records))

-- The magic, these records and the bytes after them were read; there the reader stopped.
pub record Stopped (file : Format) (a b : Option (List ℕ)) (records : List (List ℕ))
    (fault : RecordFault) : Type 0 where
  pub rest : List ℕ
  pub taken : Consumes a b (magic_of file ++ (concat records ++ rest))
  pub ordered : InOrder file [] records
  pub apart : AreApart file records
  pub few : length records < 2 ^ 63
  pub unended : IsOfText fault.kind → IsUnended file rest
  pub stops : Stops file records rest fault
  pub undecided : IsOfMachine fault.kind → IsCutAtMost file (magic_of file ++ (concat records ++ rest))

-- The same, with the last record if memory ran out.
abbrev pub StoppedWith : Format → Option (List ℕ) → Option (List ℕ) → List (List ℕ) → RecordFault → List ℕ → Type 0
StoppedWith file a b records fault last =
    (stopped : Stopped file a b records fault) × (fault.kind ≡ OutOfMemory → HasWhole file stopped.rest last)

-- strictly ascending entries, as a summary keeps them
pub record AreListed (entries : List (List ℕ)) : Type 0 where
  pub ascending : IsStrictlySortedBy (slice_cmp nat_cmp) entries
  pub are : AllByRecursion IsEntry entries

-- reading stopped, in the magic or after some records
abbrev pub HasStopped : TextKind → Option (List ℕ) → Option (List ℕ) → RecordFault → Type 0
HasStopped file a b fault =
    ((bytes : List ℕ) × Consumes a b bytes × StopsInMagicOf file bytes fault.kind × (fault.offset ≡ 0))
    ⊎ ((format : Format) × (kind_of format ≡ file) × (records : List (List ℕ)) × Stopped format a b records fault)

-- the records of an archive that are not dropped are their own content, and each is above the one before it
abbrev pub MakeThemselves : TextKind → List (List ℕ) → Type 0
MakeThemselves Archive_text records = IsMade (set.from_list records) × InOrder Archive [] records
MakeThemselves _ records = Unit {0}

-- These records were read, and the value was built from those that are not dropped.
pub record Gathers {T : Type 0} (file : Format) (Makes : List (List ℕ) → T → Type 0) (a b : Option (List ℕ))
    (value : T) (position : Position) : Type 0 where
  pub records : List (List ℕ)
  pub read : HasRead file a b records position
  pub makes : Makes (taken_of file records) value

-- These records and the end of the file were read, and the value was built from those that are not dropped.
pub record GathersAll {T : Type 0} (file : Format) (Makes : List (List ℕ) → T → Type 0) (a b : Option (List ℕ))
    (value : T) (position : Position) : Type 0 where
  pub records : List (List ℕ)
  pub read : HasReadAll file a b records position
  pub makes : Makes (taken_of file records) value

-- The text of these records was read, and the value was built from those that are not dropped.
pub record IsGathered {T : Type 0} (file : TextKind) (Makes : List (List ℕ) → T → Type 0) (a b : Option (List ℕ))
    (value : T) : Type 0 where
  pub format : Format
  pub kind_is : kind_of format ≡ file
  pub records : List (List ℕ)
  pub few : length records < 2 ^ 63
  pub taken : Consumes a b (text_of format records)
  pub ordered : InOrder format [] records
  pub apart : AreApart format records
  pub makes : Makes (taken_of format records) value
