-- Which faults a record may have.
use Rattle.std.proofs.Common.{◌≡◌, ◌≢◌, ℕ, ◌≤◌, arith, List, [], length, take, Option, Err, refl, sym, ap, ◌∙◌, subst, inl, inr, ◌⊎◌}
use Rattle.std.proofs.lemmas.Bool.Decides.{nat_tests}
use Rattle.archive_records.specs.declared.format.Format.{Format}
use Rattle.archive_records.specs.declared.format.Format.TheVariants.{Operations, Summary}
use Rattle.archive_records.specs.declared.fault.RecordFaultKind.{RecordFaultKind}
use Rattle.archive_records.specs.declared.fault.RecordFaultKind.TheVariants.{BadMagic, Truncated, TooLarge}
use Rattle.archive_records.specs.declared.fault.RecordFaultKind.TheVariants.{NotAscending, BadSlice, KeyMismatch}
use Rattle.archive_records.specs.declared.fault.RecordFaultKind.TheVariants.{BadCount, Trailing, OutOfMemory, Covered}
use Rattle.archive_records.specs.declared.fault.RecordFault.{RecordFault}
use Rattle.archive_core.specs.declared.faults.SliceFault.{SliceFault}
use Rattle.archive_records.specs.Layout.{head_length, body_length, framed, framed_after}
use Rattle.archive_records.specs.Kind.{allows, may_follow}
use Rattle.archive_records.specs.Text.{last_of}
use Rattle.archive_records.specs.Fault.{RefusesSlice, is_end, tested, next, FailsNext, IsMagicFault, IsUnended, IsOperationsFault, IsSummaryFault, IsOfText}
use Rattle.archive_records.specs.declared.buffer.Buffer.{Buffer}
use Rattle.archive_records.specs.Reading.{Blames}
use Rattle.archive_records.specs.Reader.{bytes_so_far, seen_as}
use Rattle.archive_records.proofs.Fills.{length-bytes_so_far}
use Rattle.archive_records.proofs.Holds.{next-framed}
use Rattle.archive_records.proofs.Forms.{refused_slice}
use Rattle.archive_records.proofs.Ends.{is_three, no_end}

-- no other test finds a record cut off than that of its form
next_cut : (file : Format) (low : List ℕ) (count : ℕ) (rest : List ℕ) → next file low count rest ≡ Err Truncated → framed file rest ≡ Err Truncated
unfolding next tested
next_cut file low count rest e = grind arith

pub cut_off : (file : Format) (low : List ℕ) (count : ℕ) (rest : List ℕ) → FailsNext file low count rest Truncated → framed file rest ≡ Err Truncated
cut_off file low count rest (inl e) = next_cut file low count rest e
cut_off file low count rest (inr r) = absurd (refused_slice file (take r.0 rest) Truncated r.2)

-- bytes too many are no fault of a record, nor is that it is covered told by the tests that know the last record alone
next_kind : (file : Format) (low : List ℕ) (count : ℕ) (rest : List ℕ) (kind : RecordFaultKind)
    → next file low count rest ≡ Err kind → (kind ≢ Trailing) × (kind ≢ Covered)
unfolding next framed framed_after tested
next_kind file low count rest kind e = grind arith

slice_kind : (bytes : List ℕ) (kind : RecordFaultKind) → RefusesSlice bytes kind → (kind ≢ Trailing) × (kind ≢ Covered)
    × (kind ≢ NotAscending) × (kind ≢ BadCount)
slice_kind bytes kind f = grind arith

fails_kind : (file : Format) (low : List ℕ) (count : ℕ) (rest : List ℕ) (kind : RecordFaultKind)
    → FailsNext file low count rest kind → (kind ≢ Trailing) × (kind ≢ Covered)
fails_kind file low count rest kind (inl e) = next_kind file low count rest kind e
fails_kind file low count rest kind (inr f) = let s = slice_kind (take f.0 rest) kind (refused_slice file (take f.0 rest) kind f.2) in (s.0, s.1)

pub never_trailing : (file : Format) (low : List ℕ) (count : ℕ) (rest : List ℕ) (kind : RecordFaultKind)
    → FailsNext file low count rest (seen_as kind) → kind ≢ Trailing
never_trailing file low count rest kind f t = (fails_kind file low count rest (seen_as kind) f).0 (ap seen_as t)

pub fails_not_covered : (file : Format) (low : List ℕ) (count : ℕ) (rest : List ℕ) → FailsNext file low count rest Covered → ⊥
fails_not_covered file low count rest f = (fails_kind file low count rest Covered f).1 refl

-- ---- where a file does not end

pub as_itself : (kind : RecordFaultKind) → IsOfText kind → seen_as kind ≡ kind
as_itself kind known = grind arith

-- where nothing is left, a part is all that is missing
empty_fails : (file : Format) (low : List ℕ) (count : ℕ) (kind : RecordFaultKind) → FailsNext file low count [] kind → kind ≡ Truncated
unfolding next framed
empty_fails file low count kind f = grind arith

pub unended_is : (file : Format) (low : List ℕ) (count : ℕ) (bytes : List ℕ) (kind : RecordFaultKind)
    → (kind ≡ Truncated → file ≡ Operations → bytes ≢ []) → FailsNext file low count bytes kind → IsUnended file bytes
unended_is Operations low count bytes kind some f = λ e. some
    (empty_fails Operations low count kind (subst (λ (x : List ℕ). FailsNext Operations low count x kind) e f)) refl e
unended_is _ low count bytes kind some f = tt

pub unended_behind : (file : Format) (low : List ℕ) (count : ℕ) (b : Buffer) (kind : RecordFaultKind)
    → b.at ≤ length b.bytes.items → (kind ≡ Truncated → b.at ≡ 0 → file ≡ Operations → ⊥)
    → FailsNext file low count (bytes_so_far b) (seen_as kind) → IsOfText kind → IsUnended file (bytes_so_far b)
unended_behind file low count b kind within some f known =
    unended_is file low count (bytes_so_far b) kind (λ part is nil. some part
    (sym (length-bytes_so_far b within) ∙ ap length nil) is) (rw (as_itself kind known) at f)

-- ---- an operations file

-- it has no order, and no end record
next_operations : (low : List ℕ) (count : ℕ) (rest : List ℕ) (kind : RecordFaultKind) → next Operations low count rest
    ≡ Err kind → (kind ≢ NotAscending) × (kind ≢ BadCount)
unfolding next framed framed_after tested head_length is_end may_follow allows
next_operations low count rest kind e = grind (arith, nat_tests)

magic_kind : (file : Format) (text : List ℕ) (kind : RecordFaultKind) → IsMagicFault file text kind → (kind ≡ BadMagic) ⊎ (kind ≡ Truncated)
magic_kind file text kind m = grind arith

pub operations_faults : (text : List ℕ) (fault : RecordFault) → IsOperationsFault text fault
    → (fault.kind ≢ NotAscending) × (fault.kind ≢ BadCount) × (fault.kind ≢ Trailing)
operations_faults text fault (inl m) = elim (magic_kind Operations text fault.kind m.0)
    [ inl e ↦ (λ h. cc, λ h. cc, λ h. cc) | inr e ↦ (λ h. cc, λ h. cc, λ h. cc) ]
operations_faults text fault (inr (records, front, more, inl (inl (inl e), o))) =
    let n = next_operations (last_of [] records) (length records) front.rest fault.kind e in
    (n.0, n.1, (next_kind Operations (last_of [] records) (length records) front.rest fault.kind e).0)
operations_faults text fault (inr (records, front, more, inl (inl (inr f), o))) =
    let s = slice_kind (take f.0 front.rest) fault.kind f.2 in
    (s.2, s.3, s.0)
operations_faults text fault (inr (records, front, more, inl (inr b, o))) = absurd b
operations_faults text fault (inr (records, front, more, inr t)) =
    absurd (no_end front.rest 9 (next-framed Operations (last_of [] records) (length records) front.rest 9 t.1.whole) (is_three front.rest t.1.end))

-- ---- a summary

next_summary : (low : List ℕ) (count : ℕ) (rest : List ℕ) (kind : RecordFaultKind) → next Summary low count rest
    ≡ Err kind → (kind ≢ TooLarge) × ((why : SliceFault) → kind ≢ BadSlice why) × (kind ≢ KeyMismatch)
unfolding next framed framed_after tested body_length
next_summary low count rest kind e = grind (arith, nat_tests)

-- it has no slices
summary_faults : (text : List ℕ) (fault : RecordFault) → IsSummaryFault text fault → (fault.kind ≢ TooLarge)
    × ((why : SliceFault) → fault.kind ≢ BadSlice why) × (fault.kind ≢ KeyMismatch)
summary_faults text fault (inl m) = elim (magic_kind Summary text fault.kind m.0)
    [ inl e ↦ (λ h. cc, λ why h. cc, λ h. cc) | inr e ↦ (λ h. cc, λ why h. cc, λ h. cc) ]
summary_faults text fault (inr (records, front, more, inl (inl (inl e), o))) = next_summary (last_of [] records) (length records) front.rest fault.kind e
summary_faults text fault (inr (records, front, more, inl (inl (inr f), o))) = absurd f.2
summary_faults text fault (inr (records, front, more, inl (inr b, o))) = absurd b
summary_faults text fault (inr (records, front, more, inr t)) = let e = t.0 in (λ h. cc, λ why h. cc, λ h. cc)

pub never_large : (text : List ℕ) (fault : RecordFault) → IsSummaryFault text fault → fault.kind ≢ TooLarge
never_large text fault f = (summary_faults text fault f).0

pub never_slice : (text : List ℕ) (fault : RecordFault) (why : SliceFault) → IsSummaryFault text fault → fault.kind ≢ BadSlice why
never_slice text fault why f = (summary_faults text fault f).1 why

pub never_key : (text : List ℕ) (fault : RecordFault) → IsSummaryFault text fault → fault.kind ≢ KeyMismatch
never_key text fault f = (summary_faults text fault f).2

-- want of memory says that the reader did not fail
pub memory_blames : {R : Type 0} (left : R → Option (List ℕ)) (failures : R → ℕ) (old new : R) → failures new
    ≡ failures old → Blames left failures old new OutOfMemory
memory_blames left failures old new unfailed = (λ e. cc, (λ _. unfailed), λ e. cc)
