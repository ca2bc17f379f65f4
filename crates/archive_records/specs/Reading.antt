-- The result of a reader of a whole input, or of its front, and why an input is refused.
use Rattle.std.specs.Prelude.{◌≡◌, ◌≢◌, ℕ, ◌^◌, ◌<◌, List, ◌++◌, length, map, All}
use Rattle.std.specs.Prelude.{Option, Some, IfSome, Result, Ok, Err, ◌⊎◌}
use Rattle.std.specs.FinSet as set
use Rattle.std.specs.Io.KnownBytes.{Consumes, IsAtEnd}
use Rattle.byte_device.specs.Devices.{FailedIn}
use Rattle.join_core.specs.Listing.{listing}
use Rattle.archive_core.specs.declared.operations.Operation.{Operation}
use Rattle.archive_core.specs.Record.{IsOperation, record_bytes}
use Rattle.archive_core.specs.Content.{Operations, IsContent}
use Rattle.archive_core.specs.Summary.{Entries}
use Rattle.archive_records.specs.Entry.{AreEntries}
use Rattle.archive_records.specs.declared.kind.TextKind.{TextKind}
use Rattle.archive_records.specs.declared.kind.TextKind.TheVariants.{Archive, Operations as Operations_file}
use Rattle.archive_records.specs.declared.kind.TextKind.TheVariants.{Summary as Summary_file}
use Rattle.archive_records.specs.declared.fault.RecordFaultKind.{RecordFaultKind}
use Rattle.archive_records.specs.declared.fault.RecordFaultKind.TheVariants.{Truncated, Trailing, Device, OutOfMemory}
use Rattle.archive_records.specs.declared.fault.RecordFault.{RecordFault}
use Rattle.archive_records.specs.Kind.{format_for}
use Rattle.archive_records.specs.Text.{IsArchiveOf, summary_text, IsOperationsText}
use Rattle.archive_records.specs.Fault.{IsFaultOf, IsCutAtMost, IsOfText}
use Rattle.archive_records.specs.Front.{IsFrontLength, IsLongestLength}

-- the meaning of a file's text: a content for an archive, a list of operations for an operations file, a set of entries
-- for a summary
abbrev pub Meaning : TextKind → Type 0
Meaning Archive = Operations
Meaning Operations_file = List Operation
Meaning Summary_file = Entries

-- the possible meanings of such texts
abbrev pub IsMeaning : (file : TextKind) → Meaning file → Type 0
IsMeaning Archive o = IsContent o
IsMeaning Operations_file operations = All IsOperation operations
IsMeaning Summary_file s = AreEntries s

-- the number of records of a meaning
abbrev pub records_of : (file : TextKind) → Meaning file → ℕ
records_of Archive o = set.len o
records_of Operations_file operations = length operations
records_of Summary_file s = set.len s

-- the records of a meaning, in their order
abbrev pub records_in : (file : TextKind) → Meaning file → List (List ℕ)
records_in Archive o = listing o
records_in Operations_file operations = map record_bytes operations
records_in Summary_file s = listing s

-- a text with this meaning: a content has one text that is written, and texts of version 1
abbrev pub IsTextOf : (file : TextKind) → Meaning file → List ℕ → Type 0
IsTextOf Archive o text = IsArchiveOf o text
IsTextOf Operations_file operations text = IsOperationsText text operations
IsTextOf Summary_file s text = text ≡ summary_text s

-- What a fault says about the reader, with its state before and after the call: `Device` means that it failed, any
-- other fault that it did not; `Truncated` means that it is at its end.
abbrev pub Blames : {R : Type 0} → (R → Option (List ℕ)) → (R → ℕ) → R → R → RecordFaultKind → Type 0
Blames left failures old new kind =
    (kind ≡ Device → FailedIn (failures old) (failures new)) × (kind ≢ Device → failures new ≡ failures old)
    × (kind ≡ Truncated → IsAtEnd (left new))

-- The offset has this relation to the bytes that were consumed.
abbrev pub IsOffsetAfter : (List ℕ → ℕ → Type 0) → Option (List ℕ) → Option (List ℕ) → ℕ → Type 0
IsOffsetAfter IsOffsetOf a b offset = (bytes : List ℕ) × Consumes a b bytes × IsOffsetOf bytes offset

-- a fault that is not in a text
abbrev pub IsOfMachine : RecordFaultKind → Type 0
IsOfMachine kind = (kind ≡ Device) ⊎ (kind ≡ OutOfMemory)

-- The bytes decide no fault of a text of this kind: they are fewer than the magic has, or have no other fault than
-- their end.
abbrev pub DecidesNoFault : TextKind → List ℕ → Type 0
DecidesNoFault kind bytes = (length bytes < 8) ⊎ IsCutAtMost (format_for kind bytes) bytes

-- The predicate holds for the bytes that were consumed.
abbrev pub HoldsOfTaken : (List ℕ → Type 0) → Option (List ℕ) → Option (List ℕ) → Type 0
HoldsOfTaken Holds a b = (bytes : List ℕ) × Consumes a b bytes × Holds bytes

-- Why an input is refused: its text has this fault, or its reader failed after the longest good front of the bytes, or
-- memory ran out after a good front. In the last two cases the text had no fault so far.
pub record IsRefused {R : Type 0} (file : TextKind) (left : R → Option (List ℕ)) (failures : R → ℕ) (old new : R)
    (fault : RecordFault) : Type 0 where
  pub blames : Blames left failures old new fault.kind
  pub faulty : IsOfText fault.kind → IfSome (left old) (λ text. IsFaultOf (format_for file text) text fault)
  pub device : fault.kind ≡ Device → IsOffsetAfter (IsLongestLength file) (left old) (left new) fault.offset
  pub memory : fault.kind ≡ OutOfMemory → IsOffsetAfter (IsFrontLength file) (left old) (left new) fault.offset
  pub undecided : IsOfMachine fault.kind → HoldsOfTaken (DecidesNoFault file) (left old) (left new)

-- The whole input is a text with this meaning, and with no other.
pub record IsReadWhole {R : Type 0} (file : TextKind) (meaning : Meaning file) (left : R → Option (List ℕ))
    (failures : R → ℕ) (old new : R) : Type 0 where
  pub is : IsMeaning file meaning
  pub few : records_of file meaning < 2 ^ 63
  pub text : IfSome (left old) (IsTextOf file meaning)
  pub alone : IfSome (left old) (λ text. (other : Meaning file) → IsMeaning file other → IsTextOf file other text
      → meaning ≡ other)
  pub at_end : IsAtEnd (left new)
  pub unfailed : failures new ≡ failures old

-- The result of reading a whole input, with the meaning of the value. Valid texts are refused only for a failed device
-- or for `OutOfMemory`.
abbrev pub ReadsWhole : {R T : Type 0} → (file : TextKind) → (T → Meaning file) → (R → Option (List ℕ)) → (R → ℕ) → R
    → R → Result T RecordFault → Type 0
ReadsWhole file meaning left failures old new (Ok value) = IsReadWhole file (meaning value) left failures old new
ReadsWhole file meaning left failures old new (Err fault) =
    IsRefused file left failures old new fault
    × IfSome (left old) (λ text. (m : Meaning file) → IsMeaning file m → IsTextOf file m text → IsOfMachine fault.kind)

-- A text with this meaning was read from the front of the input, and the input does not begin with a text of another.
pub record IsReadFront {R : Type 0} (file : TextKind) (meaning : Meaning file) (left : R → Option (List ℕ))
    (failures : R → ℕ) (old new : R) : Type 0 where
  pub is : IsMeaning file meaning
  pub few : records_of file meaning < 2 ^ 63
  pub taken : (text : List ℕ) × IsTextOf file meaning text × Consumes (left old) (left new) text
  pub alone : IfSome (left old) (λ input. (other : Meaning file) (text rest : List ℕ) → IsMeaning file other
      → IsTextOf file other text → input ≡ text ++ rest → (meaning ≡ other) × (left new ≡ Some rest))
  pub unfailed : failures new ≡ failures old

-- The result of reading the front of an input. Bytes after the text cause no fault, and an input that begins with a
-- valid text is refused only for a failed device or for `OutOfMemory`.
abbrev pub ReadsFront : {R T : Type 0} → (file : TextKind) → (T → Meaning file) → (R → Option (List ℕ)) → (R → ℕ) → R
    → R → Result T RecordFault → Type 0
ReadsFront file meaning left failures old new (Ok value) = IsReadFront file (meaning value) left failures old new
ReadsFront file meaning left failures old new (Err fault) =
    IsRefused file left failures old new fault
    × (fault.kind ≢ Trailing)
    × IfSome (left old) (λ input. (m : Meaning file) (text rest : List ℕ) → IsMeaning file m → IsTextOf file m text
    → input ≡ text ++ rest → IsOfMachine fault.kind)

-- The whole input is a text of one meaning, and the value is the part of it that is kept.
pub record IsReadInPart {R : Type 0} (file : TextKind) (Keeps : Meaning file → Type 0) (left : R → Option (List ℕ))
    (failures : R → ℕ) (old new : R) : Type 0 where
  pub meaning : Meaning file
  pub whole : IsReadWhole file meaning left failures old new
  pub kept : Keeps meaning

-- The result of reading a whole input of which a part is kept. It is refused as if all of it were kept.
abbrev pub ReadsInPart : {R T : Type 0} → (file : TextKind) → (T → Meaning file → Type 0) → (R → Option (List ℕ))
    → (R → ℕ) → R → R → Result T RecordFault → Type 0
ReadsInPart file Keeps left failures old new (Ok value) = IsReadInPart file (Keeps value) left failures old new
ReadsInPart file Keeps left failures old new (Err fault) =
    IsRefused file left failures old new fault
    × IfSome (left old) (λ text. (m : Meaning file) → IsMeaning file m → IsTextOf file m text → IsOfMachine fault.kind)
