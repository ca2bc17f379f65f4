-- A merge of two texts, each of either version: the text that is written from two archives, or the side that stops it,
-- and at which offset.
use Rattle.std.specs.Prelude.{◌≡◌, ◌≢◌, ℕ, ◌+◌, ◌-◌, ◌^◌, ◌<◌, true, false, not, List, [], ◌∷◌, ◌++◌, length, filter}
use Rattle.std.specs.Prelude.{IfSome, Result, Ok, Err, ◌⊎◌}
use Rattle.std.specs.List.{concat}
use Rattle.std.specs.FinSet as set
use Rattle.std.specs.Io.KnownBytes.{Appends, Consumes, IsAtEnd}
use Rattle.join_core.specs.Listing.{listing}
use Rattle.byte_device.specs.Devices.{FailedIn, Stream}
use Rattle.byte_device.specs.Writes.{WritesFirst}
use Rattle.archive_core.specs.Content.{Operations, IsContent, is_covered, joined}
use Rattle.archive_records.specs.declared.fault.RecordFault.{RecordFault}
use Rattle.archive_records.specs.declared.fault.RecordFaultKind.TheVariants.{Trailing, OutOfMemory}
use Rattle.archive_records.specs.declared.fault.MergeCause.{MergeCause}
use Rattle.archive_records.specs.declared.fault.MergeCause.TheVariants.{Left, Right, Write}
use Rattle.archive_records.specs.declared.fault.MergeFault.{MergeFault}
use Rattle.archive_records.specs.declared.format.Format.{Format}
use Rattle.archive_records.specs.declared.format.Format.TheVariants.{Archive}
use Rattle.archive_records.specs.declared.kind.TextKind.TheVariants.{Archive as Archive_text}
use Rattle.archive_records.specs.declared.writing.Sizes.{Sizes}
use Rattle.archive_records.specs.Kind.{magic, magic_of, kind_of, archive_format, IsItem, may_follow}
use Rattle.archive_records.specs.Text.{written, IsArchiveOf, end_record, InOrder, AreApart, last_of}
use Rattle.archive_records.specs.Fault.{IsOfText}
use Rattle.archive_records.specs.Front.{IsLongestFront, front_length}
use Rattle.archive_records.specs.Reading.{IsReadWhole, ReadsWhole}
use Rattle.archive_records.specs.Writing.{IsWrittenWhole}

-- ---- texts

-- the text begins with the magic of an archive, of either version
abbrev pub HasMagic : List ℕ → Type 0
HasMagic text = (format : Format) × (kind_of format ≡ Archive_text) × (rest : List ℕ) × (text ≡ magic_of format ++ rest)

-- the text is an archive's: written, or of version 1
abbrev pub IsArchiveText : List ℕ → Type 0
IsArchiveText text = (o : Operations) × IsContent o × IsArchiveOf o text

-- the records of the longest good front of the text; one without the magic has none
abbrev pub AreGoodRecords : List ℕ → List (List ℕ) → Type 0
AreGoodRecords text records = IsLongestFront (archive_format text) text records ⊎ ((HasMagic text → ⊥) × (records ≡ []))

-- the last good record of the first list is below that of the second; an empty list counts as the least record
abbrev pub EndsBelow : List (List ℕ) → List (List ℕ) → Type 0
EndsBelow a b = may_follow Archive (last_of [] a) (last_of [] b) ≡ true

-- The left side stops the merge: it is no archive's text, and either it has no magic, or the right one has the magic,
-- and is an archive's text or does not end below the left one.
pub record LeftStops (left right : List ℕ) (lefts rights : List (List ℕ)) : Type 0 where
  pub faulty : IsArchiveText left → ⊥
  pub first : (HasMagic left → ⊥) ⊎ (HasMagic right × (IsArchiveText right ⊎ (EndsBelow rights lefts → ⊥)))

-- The right side stops the merge: it is no archive's text, the left one has the magic, and either the right one has
-- none, or the left one is an archive's text, or the right one ends below it.
pub record RightStops (left right : List ℕ) (lefts rights : List (List ℕ)) : Type 0 where
  pub faulty : IsArchiveText right → ⊥
  pub magic_left : HasMagic left
  pub first : (HasMagic right → ⊥) ⊎ IsArchiveText left ⊎ EndsBelow rights lefts

-- the set of the good records of both
abbrev pub all_of : List (List ℕ) → List (List ℕ) → Operations
all_of lefts rights = set.union (set.from_list lefts) (set.from_list rights)

-- the content of the good records of both: these records without those that a retirement among them covers
abbrev pub of_both : List (List ℕ) → List (List ℕ) → Operations
of_both lefts rights = joined (set.from_list lefts) (set.from_list rights)

-- the ascending records that are not above this one
abbrev pub up_to : List ℕ → List (List ℕ) → List (List ℕ)
up_to low records = filter (λ r. not (may_follow Archive low r)) records

-- The bytes that are written if the side that ends with this record stops the merge: none if either has no magic;
-- otherwise the magic of version 2 and the good records of both that are not above this one, without those that a
-- retirement of either covers.
abbrev pub IsWrittenBefore : List ℕ → List ℕ → Operations → List ℕ → List ℕ → Type 0
IsWrittenBefore left right o low bytes =
    (((HasMagic left → ⊥) ⊎ (HasMagic right → ⊥)) × (bytes ≡ []))
    ⊎ (HasMagic left × HasMagic right × (bytes ≡ magic ++ concat (up_to low (listing o))))

-- ---- calls

-- The device did not fail in the call.
abbrev pub IsUnfailed : {D : Type 0} → Stream D → Type 0
IsUnfailed device = device.failures device.new ≡ device.failures device.old

-- The writer accepted exactly these bytes.
abbrev pub Gains : {W : Type 0} → Stream W → List ℕ → Type 0
Gains out bytes = Appends (out.bytes out.old) (out.bytes out.new) bytes

-- If the side that ends with this record stops the merge, exactly the bytes for that were written: n bytes.
abbrev pub IsWrittenUpTo : {W : Type 0} → Stream W → List ℕ → List ℕ → Operations → List ℕ → ℕ → Type 0
IsWrittenUpTo out left right o low n =
    (bytes : List ℕ) × IsWrittenBefore left right o low bytes × Gains out bytes × (n ≡ length bytes)

-- The bytes that the writer accepted are not an archive's text, if they are known.
abbrev pub GainsNoText : {W : Type 0} → Stream W → Type 0
GainsNoText out = IfSome (out.bytes out.old) (λ _. (bytes : List ℕ) → Gains out bytes → IsArchiveText bytes → ⊥)

-- Reading the input whole and alone is refused with this fault.
abbrev pub IsRefusedAlone : {R : Type 0} → Stream R → RecordFault → Type 0
IsRefusedAlone input fault =
    ReadsWhole {T = Operations} Archive_text (λ o. o) input.bytes input.failures input.old input.new (Err fault)

-- The predicate holds for the texts of the inputs and their good records, if the bytes are known.
abbrev pub ForTexts : {R S : Type 0} → Stream R → Stream S
    → (List ℕ → List ℕ → List (List ℕ) → List (List ℕ) → Type 0) → Type 0
ForTexts left right P =
    IfSome (left.bytes left.old) (λ t. IfSome (right.bytes right.old) (λ u.
    (lefts rights : List (List ℕ)) → AreGoodRecords t lefts → AreGoodRecords u rights → P t u lefts rights))

-- ---- the bytes that were read from the sides

-- the largest number of records in an archive
abbrev pub most_records : ℕ
most_records = 2 ^ 63 - 1

-- The bytes that were read from the side are the magic of its version, these ascending records, and these bytes after
-- them. In version 2 none of the records covers another.
pub record IsTaken {R : Type 0} (side : Stream R) (records : List (List ℕ)) (behind : List ℕ) : Type 0 where
  pub format : Format
  pub archive : kind_of format ≡ Archive_text
  pub taken : Consumes (side.bytes side.old) (side.bytes side.new) (magic_of format ++ (concat records ++ behind))
  pub ordered : InOrder Archive [] records
  pub apart : AreApart format records

-- The bytes that were read from the side are only the magic of its version.
abbrev pub IsMagicTaken : {R : Type 0} → Stream R → Type 0
IsMagicTaken side = (format : Format) × (kind_of format ≡ Archive_text)
    × Consumes (side.bytes side.old) (side.bytes side.new) (magic_of format)

-- The bytes that were read from the side are the magic, of either version, and any bytes after it.
abbrev pub IsBegun : {R : Type 0} → Stream R → Type 0
IsBegun side = (format : Format) × (kind_of format ≡ Archive_text) × (rest : List ℕ)
    × Consumes (side.bytes side.old) (side.bytes side.new) (magic_of format ++ rest)

-- The bytes that were read after these records from a side of this version that was read on after this record was
-- processed: a record that is above it and is a good one of that side, so that in version 2 no retirement before it
-- covers it; or the end record, and the side is at its end. A record that is covered in another way, by a retirement of
-- the other side or in version 1, is processed when it would have been written, and is held until then.
abbrev pub IsNext : {R : Type 0} → Stream R → Format → List ℕ → List (List ℕ) → List ℕ → Type 0
IsNext side format low records next =
    (IsItem Archive next × (may_follow Archive low next ≡ true) × AreApart format (records ++ next ∷ []))
    ⊎ ((next ≡ end_record (length records)) × IsAtEnd (side.bytes side.new))

-- The left side is read: the last record that was processed is its own, and the right side was read on only if the
-- right side's last record is below that one; if both are equal, or there is none yet, the left side is read first.
abbrev pub IsTurnOfLeft : {S : Type 0} → Stream S → Format → List (List ℕ) → List (List ℕ) → List ℕ → Type 0
IsTurnOfLeft right format lefts rights next =
    ((last_of [] rights ≡ last_of [] lefts) × (next ≡ []))
    ⊎ (EndsBelow rights lefts × IsNext right format (last_of [] lefts) rights next)

-- The right side is read: the last record that was processed is its own, and the left side was read on.
abbrev pub IsTurnOfRight : {R : Type 0} → Stream R → Format → List (List ℕ) → List (List ℕ) → List ℕ → Type 0
IsTurnOfRight left format lefts rights next =
    (EndsBelow rights lefts → ⊥) × IsNext left format (last_of [] rights) lefts next

-- Memory ran out while the right side was read, for the record that the left side also holds.
abbrev pub IsOfBoth : {R : Type 0} → Stream R → Format → List (List ℕ) → List (List ℕ) → List ℕ → List ℕ → Type 0
IsOfBoth left format lefts rights left_next right_next =
    IsTurnOfRight left format lefts rights left_next × IsItem Archive left_next × (right_next ≡ left_next)

-- The largest number of records of this content was written, and both sides were read on, the other one in this
-- version: this one has one more, which none of all these records covers.
pub record IsOneMore {R S : Type 0} (side : Stream R) (other : Stream S) (format : Format) (o all : Operations)
    (others : List (List ℕ)) (more next : List ℕ) : Type 0 where
  pub most : set.len o ≡ most_records
  pub more_is : IsItem Archive more × (may_follow Archive (last_of [] (listing all)) more ≡ true)
  pub uncovered : is_covered all more ≡ false
  pub next_is : IsNext other format (last_of [] (listing all)) others next

-- the offset of a fault after these records; of bytes after the end record, after that too
abbrev pub IsBehind : List (List ℕ) → RecordFault → Type 0
IsBehind records fault =
    (fault.offset ≡ front_length records) ⊎ ((fault.kind ≡ Trailing) × (fault.offset ≡ front_length records + 9))

-- Exactly the magic and these records were written: n bytes.
abbrev pub IsOut : {W : Type 0} → Stream W → List (List ℕ) → ℕ → Type 0
IsOut out records n = Gains out (magic ++ concat records) × (n ≡ length (magic ++ concat records))

-- Nothing was written, and the fault of a magic has the offset 0.
abbrev pub IsInMagic : {W : Type 0} → Stream W → RecordFault → ℕ → Type 0
IsInMagic out fault n = (fault.offset ≡ 0) × (n ≡ 0) × Gains out []

-- The left side is refused after its magic. Of these records of both sides exactly those were written that none of them
-- covers.
pub record IsLeftBehind {R S W : Type 0} (left : Stream R) (right : Stream S) (out : Stream W) (fault : RecordFault)
    (n : ℕ) : Type 0 where
  pub lefts : List (List ℕ)
  pub rights : List (List ℕ)
  pub left_next : List ℕ
  pub right_next : List ℕ
  pub left_taken : IsTaken left lefts left_next
  pub right_taken : IsTaken right rights right_next
  pub behind : IsBehind lefts fault
  pub out_is : IsOut out (listing (of_both lefts rights)) n
  pub turn : IsTurnOfLeft right right_taken.format lefts rights right_next
      ⊎ ((fault.kind ≡ OutOfMemory) × IsOneMore left right right_taken.format (of_both lefts rights)
      (all_of lefts rights) rights left_next right_next
      × (IsItem Archive right_next → may_follow Archive right_next left_next ≡ true → ⊥))
      ⊎ ((fault.kind ≡ OutOfMemory) × IsOfBoth left left_taken.format lefts rights left_next right_next)

-- The right side is refused after its magic, in the same way. If memory ran out, it was not for a record that the left
-- side holds: that is reported for the left one.
pub record IsRightBehind {R S W : Type 0} (left : Stream R) (right : Stream S) (out : Stream W) (fault : RecordFault)
    (n : ℕ) : Type 0 where
  pub lefts : List (List ℕ)
  pub rights : List (List ℕ)
  pub left_next : List ℕ
  pub right_next : List ℕ
  pub left_taken : IsTaken left lefts left_next
  pub right_taken : IsTaken right rights right_next
  pub behind : IsBehind rights fault
  pub out_is : IsOut out (listing (of_both lefts rights)) n
  pub turn : IsTurnOfRight left left_taken.format lefts rights left_next
      ⊎ ((fault.kind ≡ OutOfMemory) × IsOneMore right left left_taken.format (of_both lefts rights)
      (all_of lefts rights) lefts right_next left_next
      × (IsItem Archive left_next → may_follow Archive right_next left_next ≡ true))
  pub alone : fault.kind ≡ OutOfMemory → right_next ≢ left_next

-- ---- the result

-- The left side is refused, and if the fault is in its text, it is the side that stops the merge.
pub record StopsLeft {R S W : Type 0} (left : Stream R) (right : Stream S) (out : Stream W) (fault : RecordFault)
    (n : ℕ) : Type 0 where
  pub refused : IsRefusedAlone left fault
  pub right_unfailed : IsUnfailed right
  pub out_unfailed : IsUnfailed out
  pub stops : IsOfText fault.kind → ForTexts left right LeftStops
  pub place : IsOfText fault.kind → ForTexts left right
      (λ t u lefts rights. IsWrittenUpTo out t u (of_both lefts rights) (last_of [] lefts) n)
  pub order : (IsInMagic out fault n × Consumes (right.bytes right.old) (right.bytes right.new) [])
      ⊎ IsLeftBehind left right out fault n

-- The right side is refused, and if the fault is in its text, it is the side that stops the merge.
pub record StopsRight {R S W : Type 0} (left : Stream R) (right : Stream S) (out : Stream W) (fault : RecordFault)
    (n : ℕ) : Type 0 where
  pub refused : IsRefusedAlone right fault
  pub left_unfailed : IsUnfailed left
  pub out_unfailed : IsUnfailed out
  pub stops : IsOfText fault.kind → ForTexts left right RightStops
  pub place : IsOfText fault.kind → ForTexts left right
      (λ t u lefts rights. IsWrittenUpTo out t u (of_both lefts rights) (last_of [] rights) n)
  pub order : (IsInMagic out fault n × IsMagicTaken left)
      ⊎ IsRightBehind left right out fault n

-- A proper prefix of the bytes that are written if the side that ends with this record stops the merge was written: n
-- bytes.
abbrev pub IsWrittenIn : {W : Type 0} → Stream W → List ℕ → List ℕ → Operations → List ℕ → ℕ → Type 0
IsWrittenIn out left right o low n =
    (bytes : List ℕ) × IsWrittenBefore left right o low bytes
    × WritesFirst (out.bytes out.old) (out.bytes out.new) bytes n

-- The writer failed, and no reader did; both magics had been read; and no side had stopped the merge before: if one
-- stops it by its text, that is after more bytes.
pub record StopsWrite {R S W : Type 0} (left : Stream R) (right : Stream S) (out : Stream W) (n : ℕ) : Type 0 where
  pub failed : FailedIn (out.failures out.old) (out.failures out.new)
  pub left_unfailed : IsUnfailed left
  pub right_unfailed : IsUnfailed right
  pub left_begun : IsBegun left
  pub right_begun : IsBegun right
  pub left_later : ForTexts left right (λ t u lefts rights. LeftStops t u lefts rights
      → IsWrittenIn out t u (of_both lefts rights) (last_of [] lefts) n)
  pub right_later : ForTexts left right (λ t u lefts rights. RightStops t u lefts rights
      → IsWrittenIn out t u (of_both lefts rights) (last_of [] rights) n)

-- the cause that stopped the merge after this many bytes
abbrev pub StopsBy : {R S W : Type 0} → Stream R → Stream S → Stream W → MergeCause → ℕ → Type 0
StopsBy left right out (Left fault) n = StopsLeft left right out fault n
StopsBy left right out (Right fault) n = StopsRight left right out fault n
StopsBy left right out Write n = StopsWrite left right out n

-- Both inputs are texts of archives, and the text of their join was written; the number of its records is within the
-- limit.
pub record IsMerged {R S W : Type 0} (left : Stream R) (right : Stream S) (out : Stream W) (sizes : Sizes)
    : Type 0 where
  pub o : Operations
  pub p : Operations
  pub left_is : IsReadWhole Archive_text o left.bytes left.failures left.old left.new
  pub right_is : IsReadWhole Archive_text p right.bytes right.failures right.old right.new
  pub few : set.len (joined o p) < 2 ^ 63
  pub written_is : IsWrittenWhole out.bytes out.failures out.old out.new (set.len (joined o p)) (written (joined o p))
      sizes

-- The result of merging two inputs: the text of the join of two archives; or the cause that stopped the merge, with
-- exactly the first `written` bytes of the text of the content of both inputs' good records, which are fewer than all.
-- In that case the bytes that the writer accepted are not an archive's text, whatever the inputs are.
abbrev pub Merges : {R S W : Type 0} → Stream R → Stream S → Stream W → Result Sizes MergeFault → Type 0
Merges left right out (Ok sizes) = IsMerged left right out sizes
Merges left right out (Err e) =
    StopsBy left right out e.cause e.written
    × ForTexts left right (λ t u lefts rights.
    WritesFirst (out.bytes out.old) (out.bytes out.new) (written (of_both lefts rights)) e.written)
    × GainsNoText out

-- ---- how much was written

-- The writer accepted exactly this number of bytes, whichever they are.
abbrev pub GainsCount : {W : Type 0} → Stream W → ℕ → Type 0
GainsCount out n = (bytes : List ℕ) × Gains out bytes × (n ≡ length bytes)
