-- A merge, step by step: the terms of the inner functions, and of the traits of its right side. No contract of another
-- public function has them.
use Rattle.std.specs.Prelude.{◌≡◌, ◌≢◌, ℕ, ◌+◌, ◌-◌, ◌*◌, ◌^◌, ◌<◌, ◌≤◌, true, List, [], ◌∷◌}
use Rattle.std.specs.Prelude.{◌++◌, ◌||◌, length, take, Bool, false, Option, Result, Ok, Err, MatchResult, ◌⊎◌}
use Rattle.std.specs.declared.cmp.Ordering.{Ordering}
use Rattle.std.specs.declared.cmp.Ordering.TheVariants.{Less, Equal, Greater}
use Rattle.std.specs.Ordering.{nat_cmp}
use Rattle.std.specs.Cmp.Lexicographic.{slice_cmp}
use Rattle.std.specs.List.{concat, Contains}
use Rattle.std.specs.Io.KnownBytes.{Appends, Consumes, IsAtEnd}
use Rattle.byte_device.specs.Devices.{FailedIn, Stream}
use Rattle.archive_core.specs.Content.{is_covered}
use Rattle.archive_core.specs.Record.{IsRecord}
use Rattle.archive_records.specs.declared.fault.RecordFault.{RecordFault}
use Rattle.archive_records.specs.declared.fault.RecordFaultKind.TheVariants.{OutOfMemory}
use Rattle.archive_records.specs.Front.{front_length}
use Rattle.archive_records.specs.declared.fault.MergeCause.{MergeCause}
use Rattle.archive_records.specs.declared.fault.MergeCause.TheVariants.{Left, Right, Write}
use Rattle.archive_records.specs.declared.fault.MergeFault.{MergeFault}
use Rattle.archive_records.specs.declared.format.Format.{Format}
use Rattle.archive_records.specs.declared.format.Format.TheVariants.{Archive}
use Rattle.archive_records.specs.declared.kind.TextKind.TheVariants.{Archive as Archive_text}
use Rattle.archive_merge.specs.Sides.{Sides}
use Rattle.archive_merge.specs.declared.side.Lookahead.{Lookahead}
use Rattle.archive_merge.specs.declared.side.Lookahead.TheVariants.{Unread, Held, Ended}
use Rattle.archive_merge.specs.declared.side.MergeInput.{MergeInput}
use Rattle.archive_records.specs.declared.writing.Sizes.{Sizes}
use Rattle.archive_records.specs.Kind.{magic, magic_of, kind_of, may_follow}
use Rattle.archive_records.specs.Text.{end_record, text_of, InOrder, kept, last_of}
use Rattle.archive_records.specs.Reading.{Blames}
use Rattle.archive_merge.specs.Merging.{IsUnfailed, most_records}
use Rattle.archive_records.specs.Reader.{set_of, HasRead, HasReadAll, Stopped, StopsInMagicOf}

-- ---- one side

-- The side is an archive. These of its records were processed, and low is the last record of both sides that was: the
-- next one is not read yet; or it was read, and is above low; or the text was read to its end.
pub record Stands (a b : Option (List ℕ)) (done : List (List ℕ)) (low : List ℕ) (side : MergeInput) : Type 0 where
  pub archive : kind_of side.reader.file ≡ Archive_text
  pub unread : side.ahead ≡ Unread → HasRead side.reader.file a b done side.reader × (last_of [] done ≡ low)
  pub held : side.ahead ≡ Held → HasRead side.reader.file a b (done ++ side.reader.last ∷ []) side.reader
      × (may_follow Archive low side.reader.last ≡ true)
  pub ended : side.ahead ≡ Ended → HasReadAll side.reader.file a b done side.reader × IsAtEnd b

-- reading stopped in the magic
pub record StopsBeforeRecords (a b : Option (List ℕ)) (fault : RecordFault) : Type 0 where
  pub bytes : List ℕ
  pub taken : Consumes a b bytes
  pub stops : StopsInMagicOf Archive_text bytes fault.kind
  pub start : fault.offset ≡ 0

-- the magic of an archive, of either version, was read
abbrev pub HasMagicRead : Option (List ℕ) → Option (List ℕ) → Type 0
HasMagicRead a b = (format : Format) × (kind_of format ≡ Archive_text) × Consumes a b (magic_of format)

abbrev pub cost : Lookahead → ℕ
cost Unread = 1
cost Held = 2
cost Ended = 0

-- an upper bound for the remaining steps
abbrev pub weight : MergeInput → ℕ
weight side = (2 ^ 63 - side.reader.count) * 2 + cost side.ahead

-- ---- the next record

abbrev pub first_by : Lookahead → Lookahead → Ordering → Ordering
first_by Held Held o = o
first_by Held Ended o = Less
first_by Held Unread o = Less
first_by Ended s o = Greater
first_by Unread s o = Greater

-- the side with the next record to be written
abbrev pub first_of : MergeInput → MergeInput → Ordering
first_of left right = first_by left.ahead right.ahead (slice_cmp nat_cmp left.reader.last right.reader.last)

-- the next record
abbrev pub next_record_by : Ordering → Sides → List ℕ
next_record_by Less m = m.left.reader.last
next_record_by Equal m = m.left.reader.last
next_record_by Greater m = m.right.reader.last

abbrev pub next_record : Sides → List ℕ
next_record m = next_record_by (first_of m.left m.right) m

-- a side whose last record was processed
abbrev pub unread_of : MergeInput → MergeInput
unread_of s = record { reader = s.reader; ahead = Unread }

-- each side after the next record was processed: that of the left side, of both sides, or of the right side
abbrev pub left_after : Ordering → MergeInput → MergeInput
left_after Less s = unread_of s
left_after Equal s = unread_of s
left_after Greater s = s

abbrev pub right_after : Ordering → MergeInput → MergeInput
right_after Less s = s
right_after Equal s = unread_of s
right_after Greater s = unread_of s

-- both sides after the next record was processed, with these sizes written
abbrev pub after_turn : Sides → Sizes → Sides
after_turn m written = record {
  left = left_after (first_of m.left m.right) m.left;
  right = right_after (first_of m.left m.right) m.right;
  written = written;
}

-- whether a side that has the next record dropped it, or a retirement of the other side covers it
abbrev pub DecidesCoveredBy : Ordering → MergeInput → MergeInput → Bool → Type 0
DecidesCoveredBy Less left right b = IsRecord left.reader.last
    → b ≡ (left.reader.dropped || is_covered (set_of right.reader.retired) left.reader.last)
DecidesCoveredBy Equal left right b = b ≡ (left.reader.dropped || right.reader.dropped)
DecidesCoveredBy Greater left right b = IsRecord right.reader.last
    → b ≡ (right.reader.dropped || is_covered (set_of left.reader.retired) right.reader.last)

-- the same for two sides
abbrev pub DecidesCovered : MergeInput → MergeInput → Bool → Type 0
DecidesCovered left right b = DecidesCoveredBy (first_of left right) left right b

-- ---- both sides

-- The ascending list whose members are exactly those of both.
pub record Joins (out lefts rights : List (List ℕ)) : Type 0 where
  pub ordered : InOrder Archive [] out
  pub from : (r : List ℕ) → Contains out r → Contains lefts r ⊎ Contains rights r
  pub left : (r : List ℕ) → Contains lefts r → Contains out r
  pub right : (r : List ℕ) → Contains rights r → Contains out r

-- The records that both sides read, without the held ones, which are above them, ascend as `out`. If the left side is
-- to be read on and the right side is not, the right side's last record is not the last of both.
pub record Both (a1 b1 a2 b2 : Option (List ℕ)) (left_side right_side : MergeInput) (out : List (List ℕ))
    : Type 0 where
  pub lefts : List (List ℕ)
  pub rights : List (List ℕ)
  pub left : Stands a1 b1 lefts (last_of [] out) left_side
  pub right : Stands a2 b2 rights (last_of [] out) right_side
  pub order : left_side.ahead ≡ Unread → right_side.ahead ≢ Unread
      → may_follow Archive (last_of [] rights) (last_of [] out) ≡ true
  pub joins : Joins out lefts rights

-- The records that both sides read were written, without those that are covered among them.
pub record Merging (a1 b1 a2 b2 w0 w1 : Option (List ℕ)) (m : Sides) : Type 0 where
  pub out : List (List ℕ)
  pub both : Both a1 b1 a2 b2 m.left m.right out
  pub records : m.written.records ≡ length (kept out)
  pub bytes : m.written.bytes ≡ 8 + length (concat (kept out))
  pub gained : Appends w0 w1 (magic ++ concat (kept out))

-- The left side, which was to be read on, stopped the merge in this state.
pub record LeftStopped (a1 b1 a2 b2 w0 w1 : Option (List ℕ)) (fault : RecordFault) (written : ℕ) : Type 0 where
  pub before : Option (List ℕ)
  pub sides : Sides
  pub merging : Merging a1 before a2 b2 w0 w1 sides
  pub unread : sides.left.ahead ≡ Unread
  pub left : Stopped sides.left.reader.file a1 b1 merging.both.lefts fault
  pub written_is : written ≡ sides.written.bytes

-- The right side stopped it, and the left side holds a record, or was read to its end.
pub record RightStopped (a1 b1 a2 b2 w0 w1 : Option (List ℕ)) (fault : RecordFault) (written : ℕ) : Type 0 where
  pub before : Option (List ℕ)
  pub sides : Sides
  pub merging : Merging a1 b1 a2 before w0 w1 sides
  pub read : sides.left.ahead ≢ Unread
  pub unread : sides.right.ahead ≡ Unread
  pub right : Stopped sides.right.reader.file a2 b2 merging.both.rights fault
  pub written_is : written ≡ sides.written.bytes

-- The writer failed inside the text of the records that both sides read, without those that are held or covered; inside
-- its end record only if both texts were read to their ends.
pub record WriteStopped (a1 b1 a2 b2 w0 w1 : Option (List ℕ)) (written : ℕ) : Type 0 where
  pub out : List (List ℕ)
  pub left_side : MergeInput
  pub right_side : MergeInput
  pub both : Both a1 b1 a2 b2 left_side right_side out
  pub within : (written < 8 + length (concat (kept out)))
      ⊎ ((left_side.ahead ≡ Ended) × (right_side.ahead ≡ Ended) × (written < length (text_of Archive (kept out))))
  pub gained : Appends w0 w1 (take written (text_of Archive (kept out)))

-- ---- numbers

-- The numbers of a merge are within their limits.
pub record Fits (m : Sides) : Type 0 where
  pub left_archive : kind_of m.left.reader.file ≡ Archive_text
  pub right_archive : kind_of m.right.reader.file ≡ Archive_text
  pub left_few : m.left.reader.count < 2 ^ 63
  pub right_few : m.right.reader.count < 2 ^ 63
  pub few : m.written.records < 2 ^ 63
  pub bytes : m.written.bytes ≤ 8 + m.written.records * 2 ^ 64

-- no side is to be read on
pub record IsRead (m : Sides) : Type 0 where
  pub left : m.left.ahead ≢ Unread
  pub right : m.right.ahead ≢ Unread

-- One of the sides has a next record, and the numbers are within their limits.
pub record IsBeforeTurn (m : Sides) : Type 0 where
  pub fits : Fits m
  pub read : IsRead m
  pub some : m.left.ahead ≡ Ended → m.right.ahead ≡ Held

-- ---- refusals

-- The largest number of records was written, and there is a next record that is not covered.
pub record IsFull (a1 b1 a2 b2 w0 w1 : Option (List ℕ)) (written : ℕ) : Type 0 where
  pub sides : Sides
  pub merging : Merging a1 b1 a2 b2 w0 w1 sides
  pub before : IsBeforeTurn sides
  pub free : is_covered (set_of merging.out) (next_record sides) ≡ false
  pub most : sides.written.records ≡ most_records
  pub written_is : written ≡ sides.written.bytes

-- the fault `OutOfMemory` at this offset
abbrev pub memory_after : ℕ → RecordFault
memory_after offset = record { kind = OutOfMemory; offset = offset }

-- The next record is that of the left side, and memory ran out for it.
abbrev pub LeftFull : (a1 b1 a2 b2 w0 w1 : Option (List ℕ)) → RecordFault → ℕ → Type 0
LeftFull a1 b1 a2 b2 w0 w1 fault written =
    (full : IsFull a1 b1 a2 b2 w0 w1 written) × (first_of full.sides.left full.sides.right ≢ Greater)
    × (fault ≡ memory_after (front_length full.merging.both.lefts))

-- The next record is that of the right side, and memory ran out for it.
abbrev pub RightFull : (a1 b1 a2 b2 w0 w1 : Option (List ℕ)) → RecordFault → ℕ → Type 0
RightFull a1 b1 a2 b2 w0 w1 fault written =
    (full : IsFull a1 b1 a2 b2 w0 w1 written) × (first_of full.sides.left full.sides.right ≡ Greater)
    × (fault ≡ memory_after (front_length full.merging.both.rights))

-- Memory ran out in the right side for the record that the left side also holds: it is reported for the left one.
abbrev pub BothWanted : (a1 b1 a2 b2 w0 w1 : Option (List ℕ)) → RecordFault → ℕ → Type 0
BothWanted a1 b1 a2 b2 w0 w1 fault written =
    (own : RecordFault) × (s : RightStopped a1 b1 a2 b2 w0 w1 own written) × (s.sides.left.ahead ≡ Held)
    × (s.right.rest ≡ s.sides.left.reader.last) × (s.sides.left.reader.count < 2 ^ 63)
    × (fault ≡ memory_after (front_length s.merging.both.lefts))

-- The right side stopped the merge; if memory ran out, it was not for a record that the left side holds, nor for an end
-- record.
abbrev pub RightAlone : (a1 b1 a2 b2 w0 w1 : Option (List ℕ)) → RecordFault → ℕ → Type 0
RightAlone a1 b1 a2 b2 w0 w1 fault written =
    (s : RightStopped a1 b1 a2 b2 w0 w1 fault written) × (fault.kind ≡ OutOfMemory
    → (s.sides.left.ahead ≡ Held → s.right.rest ≢ s.sides.left.reader.last) × ((n : ℕ) → s.right.rest ≢ end_record n))

-- the fault is reported for the left side
abbrev pub LeftRefused : (a1 b1 a2 b2 w0 w1 : Option (List ℕ)) → RecordFault → ℕ → Type 0
LeftRefused a1 b1 a2 b2 w0 w1 fault written =
    LeftStopped a1 b1 a2 b2 w0 w1 fault written
    ⊎ LeftFull a1 b1 a2 b2 w0 w1 fault written
    ⊎ BothWanted a1 b1 a2 b2 w0 w1 fault written

-- the fault is reported for the right side
abbrev pub RightRefused : (a1 b1 a2 b2 w0 w1 : Option (List ℕ)) → RecordFault → ℕ → Type 0
RightRefused a1 b1 a2 b2 w0 w1 fault written =
    RightAlone a1 b1 a2 b2 w0 w1 fault written ⊎ RightFull a1 b1 a2 b2 w0 w1 fault written

-- one of three predicates, by the cause
abbrev pub ByCause : MergeCause → (RecordFault → Type 0) → (RecordFault → Type 0) → Type 0 → Type 0
ByCause (Left fault) P Q T = P fault
ByCause (Right fault) P Q T = Q fault
ByCause Write P Q T = T

-- The failures of the devices after a result, those of the writer by its count before and after: only the device of the
-- reported cause may have failed.
abbrev pub BlamesBy : {R S : Type 0} → Stream R → Stream S → ℕ → ℕ → MergeCause → Type 0
BlamesBy left right w0 w1 (Left fault) =
    Blames left.bytes left.failures left.old left.new fault.kind × IsUnfailed right × (w1 ≡ w0)
BlamesBy left right w0 w1 (Right fault) =
    IsUnfailed left × Blames right.bytes right.failures right.old right.new fault.kind × (w1 ≡ w0)
BlamesBy left right w0 w1 Write = IsUnfailed left × IsUnfailed right × FailedIn w0 w1

-- The writer's failures after a fault of a step, by its count: it failed, or memory ran out and it did not fail.
abbrev pub BlamesWriter : ℕ → ℕ → MergeCause → Type 0
BlamesWriter w0 w1 (Left fault) = (fault.kind ≡ OutOfMemory) × (w1 ≡ w0)
BlamesWriter w0 w1 (Right fault) = (fault.kind ≡ OutOfMemory) × (w1 ≡ w0)
BlamesWriter w0 w1 Write = FailedIn w0 w1

-- The failures of the left side's device after a fault in reading on the left side.
abbrev pub BlamesLeft : {R : Type 0} → Stream R → MergeCause → Type 0
BlamesLeft left (Left fault) = Blames left.bytes left.failures left.old left.new fault.kind
BlamesLeft left (Right fault) = ⊥
BlamesLeft left Write = ⊥

-- The failures of the right side's device after a fault in reading on the right side: `OutOfMemory` may be reported for
-- the left one.
abbrev pub BlamesRight : {S : Type 0} → Stream S → MergeCause → Type 0
BlamesRight right (Left fault) = (fault.kind ≡ OutOfMemory) × IsUnfailed right
BlamesRight right (Right fault) = Blames right.bytes right.failures right.old right.new fault.kind
BlamesRight right Write = ⊥

abbrev pub BlamesDevices : {R S T : Type 0} → Stream R → Stream S → ℕ → ℕ → Result T MergeFault → Type 0
BlamesDevices left right w0 w1 result =
    MatchResult result (λ _. IsUnfailed left × IsUnfailed right × (w1 ≡ w0)) (λ e. BlamesBy left right w0 w1 e.cause)

-- how a merge stops after the magic
abbrev pub HasStoppedMerge : (a1 b1 a2 b2 w0 w1 : Option (List ℕ)) → MergeFault → Type 0
HasStoppedMerge a1 b1 a2 b2 w0 w1 e = ByCause e.cause
    (λ fault. LeftRefused a1 b1 a2 b2 w0 w1 fault e.written)
    (λ fault. RightRefused a1 b1 a2 b2 w0 w1 fault e.written)
    (WriteStopped a1 b1 a2 b2 w0 w1 e.written)

-- The effect of a call on a merge, with the inputs and the output before and after it: the merge goes on, or stops.
abbrev pub MergesOn : {T : Type 0} → (b1 c1 b2 c2 w1 w2 : Option (List ℕ)) → Sides → Sides
    → Result T MergeFault → Type 0
MergesOn b1 c1 b2 c2 w1 w2 old new result =
    (a1 a2 w0 : Option (List ℕ)) → Merging a1 b1 a2 b2 w0 w1 old
    → MatchResult result (λ _. Merging a1 c1 a2 c2 w0 w2 new) (λ e. HasStoppedMerge a1 c1 a2 c2 w0 w2 e)

-- the fault is reported for the left side, also before the magic is written
abbrev pub LeftTold : (a1 b1 a2 b2 w0 w1 : Option (List ℕ)) → RecordFault → ℕ → Type 0
LeftTold a1 b1 a2 b2 w0 w1 fault written =
    ((written ≡ 0) × Appends w0 w1 [] × Consumes a2 b2 [] × StopsBeforeRecords a1 b1 fault)
    ⊎ LeftRefused a1 b1 a2 b2 w0 w1 fault written

-- the fault is reported for the right side, also before the magic is written
abbrev pub RightTold : (a1 b1 a2 b2 w0 w1 : Option (List ℕ)) → RecordFault → ℕ → Type 0
RightTold a1 b1 a2 b2 w0 w1 fault written =
    ((written ≡ 0) × Appends w0 w1 [] × HasMagicRead a1 b1 × StopsBeforeRecords a2 b2 fault)
    ⊎ RightRefused a1 b1 a2 b2 w0 w1 fault written

-- how a merge stops, before or after the magic
abbrev pub StopsMerge : (a1 b1 a2 b2 w0 w1 : Option (List ℕ)) → MergeFault → Type 0
StopsMerge a1 b1 a2 b2 w0 w1 e = ByCause e.cause
    (λ fault. LeftTold a1 b1 a2 b2 w0 w1 fault e.written)
    (λ fault. RightTold a1 b1 a2 b2 w0 w1 fault e.written)
    (WriteStopped a1 b1 a2 b2 w0 w1 e.written)

-- ---- steps

-- the fault `OutOfMemory` for the record that the side holds
abbrev pub memory_for : MergeInput → RecordFault
memory_for side = memory_after (side.reader.offset - length side.reader.last)

-- The fault if one record more than the largest number would be written: `OutOfMemory` for the side with that record,
-- at the offset after the records before it.
abbrev pub IsRefusedMore : Sides → MergeFault → Type 0
IsRefusedMore m e =
    (m.written.records ≡ most_records) × (e.written ≡ m.written.bytes)
    × (((first_of m.left m.right ≢ Greater) × (e.cause ≡ Left (memory_for m.left)))
    ⊎ ((first_of m.left m.right ≡ Greater) × (e.cause ≡ Right (memory_for m.right))))

-- The left side holds the record that the right side read last.
abbrev pub IsLastOfBoth : Sides → Type 0
IsLastOfBoth m = (m.left.ahead ≡ Held) × (m.left.reader.last ≡ m.right.reader.last)

-- The fault to report if the right side is refused with this one: `OutOfMemory` for a record that the left side also
-- holds is reported for the left side.
abbrev pub IsToldOfRight : Sides → RecordFault → MergeFault → Type 0
IsToldOfRight m fault e =
    ((fault.kind ≡ OutOfMemory) × IsLastOfBoth m
    × (e ≡ record { cause = Left (memory_for m.left); written = m.written.bytes }))
    ⊎ ((fault.kind ≡ OutOfMemory → IsLastOfBoth m → ⊥)
    × (e ≡ record { cause = Right fault; written = m.written.bytes }))

abbrev pub cost_of : Sides → ℕ
cost_of m = weight m.left + weight m.right

-- The next record was processed: if the right side has it, that side is to be read on. The numbers are within their
-- limits, and fewer steps remain.
pub record HadTurn (old new : Sides) : Type 0 where
  pub fits : Fits new
  pub had : first_of old.left old.right ≢ Less → new.right.ahead ≡ Unread
  pub less : cost_of new < cost_of old

-- One more record was written, and the numbers are within their limits.
pub record IsOneMore (old new : Sizes) : Type 0 where
  pub records : new.records ≡ old.records + 1
  pub bytes : new.bytes ≤ 8 + new.records * 2 ^ 64

-- Both sides were read on: the numbers are within their limits, and no more steps remain than before.
pub record IsReadOn (old new : Sides) : Type 0 where
  pub fits : Fits new
  pub read : IsRead new
  pub less : cost_of new ≤ cost_of old

-- Both texts were read to their ends, and the numbers are within their limits.
pub record HasEnded (m : Sides) : Type 0 where
  pub fits : Fits m
  pub left : m.left.ahead ≡ Ended
  pub right : m.right.ahead ≡ Ended

-- Two whole texts were read, and the end record was written after their records.
pub record MergedAll (a1 b1 a2 b2 w0 w1 : Option (List ℕ)) (sizes : Sizes) : Type 0 where
  pub before : Option (List ℕ)
  pub sides : Sides
  pub merging : Merging a1 b1 a2 b2 w0 before sides
  pub ended : HasEnded sides
  pub gained : Appends before w1 (end_record sides.written.records)
  pub records : sizes.records ≡ sides.written.records
  pub bytes : sizes.bytes ≡ sides.written.bytes + length (end_record sides.written.records)

-- the result of a merge
abbrev pub Leaves : (a1 b1 a2 b2 w0 w1 : Option (List ℕ)) → Result Sizes MergeFault → Type 0
Leaves a1 b1 a2 b2 w0 w1 (Ok sizes) = MergedAll a1 b1 a2 b2 w0 w1 sizes
Leaves a1 b1 a2 b2 w0 w1 (Err e) = StopsMerge a1 b1 a2 b2 w0 w1 e
