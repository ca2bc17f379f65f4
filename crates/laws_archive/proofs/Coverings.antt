-- Where a covered admission is the fault of a text.
use Rattle.std.proofs.Common.{◌≡◌, ◌≢◌, ℕ, true, List, [], ◌++◌, length, refl, sym, ap, ◌∙◌, subst, inl, inr}
use Rattle.std.specs.List.{concat, Contains}
use Rattle.sha2.specs.Sha256.{sha256}
use Rattle.archive_core.specs.Valid.{IsValid, key_of}
use Rattle.archive_core.specs.Record.{IsRecord, admission_record, retirement_record}
use Rattle.archive_core.specs.Content.{covering, is_covered}
use Rattle.archive_core.proofs.Entries.{covering_admission}
use Rattle.archive_core.proofs.Made.{and_left, and_right}
use Rattle.archive_records.specs.declared.format.Format.{Format}
use Rattle.archive_records.specs.declared.format.Format.TheVariants.{Archive, OldArchive}
use Rattle.archive_records.specs.declared.fault.RecordFaultKind.{RecordFaultKind}
use Rattle.archive_records.specs.declared.fault.RecordFaultKind.TheVariants.{Covered}
use Rattle.archive_records.specs.declared.fault.RecordFault.{RecordFault}
use Rattle.archive_records.specs.Kind.{magic, old_magic, archive_format, may_follow}
use Rattle.archive_records.specs.Text.{last_of}
use Rattle.archive_records.specs.Fault.{IsFault, IsFaultOf, IsFaultAfter, FailsNext, FailsBehind, Fails, IsMagicFault}
use Rattle.archive_records.specs.Front.{IsGoodFront, IsLongestFront, front_length}
use Rattle.archive_records.specs.Reader.{set_of}
use Rattle.archive_records.proofs.Apart.{in_set, from_set, not_covering}
use Rattle.archive_records.proofs.FaultKinds.{fails_not_covered}
use Rattle.archive_records.proofs.Exact.{fault_longest}
use Rattle.archive_records.proofs.Formats.{format_magic}

no_magic_covers : (file : Format) (text : List ℕ) (kind : RecordFaultKind) → kind ≡ Covered → IsMagicFault file text kind → ⊥
no_magic_covers file text kind e m = subst (IsMagicFault file text) e m

by_behind : (file : Format) (records : List (List ℕ)) (rest : List ℕ) (kind : RecordFaultKind) → kind ≡ Covered
    → Fails file records rest kind → FailsBehind file records rest kind
by_behind file records rest kind e (inl f) = absurd (fails_not_covered file (last_of [] records) (length records) rest
    (subst (FailsNext file (last_of [] records) (length records) rest) e f))
by_behind file records rest kind e (inr f) = f

-- only an archive's text has such a fault
behind_covered : (file : Format) (records : List (List ℕ)) (rest : List ℕ) (fault : RecordFault) → fault.kind ≡ Covered
    → IsFaultAfter file records rest fault → FailsBehind file records rest fault.kind
    × (fault.offset ≡ front_length records)
behind_covered file records rest fault e (inl f) = (by_behind file records rest fault.kind e f.0, f.1)
behind_covered file records rest fault e (inr t) = cc (sym e ∙ t.0)

pub uncovered : (file : Format) → ((records : List (List ℕ)) (rest : List ℕ) (kind : RecordFaultKind) → FailsBehind file records rest kind → ⊥)
    → (text : List ℕ) (fault : RecordFault) → IsFaultOf file text fault → fault.kind ≢ Covered
uncovered file none text fault (inl m) e = no_magic_covers file text fault.kind e m.0
uncovered file none text fault (inr f) e = none f.0 f.1.rest fault.kind (behind_covered file f.0 f.1.rest fault e f.3).0

-- ---- in words

abbrev pub StandsCovered : List ℕ → List (List ℕ) → List ℕ → List ℕ → Type 0
StandsCovered text records slice rest =
    IsValid slice × (text ≡ magic ++ (concat records ++ (admission_record slice ++ rest))) × Contains records (retirement_record (key_of slice) (sha256 slice))

-- a record that is covered admits a slice
covered_slice : (records : List (List ℕ)) (item : List ℕ) → IsRecord item → is_covered (set_of records) item ≡ true
    → (slice : List ℕ) × IsValid slice × (item ≡ admission_record slice)
    × Contains records (retirement_record (key_of slice) (sha256 slice))
covered_slice records item (inl a) c =
    let at : Contains records (covering item) = from_set records (covering item) (and_right _ _ c) in
    (a.slice, a.valid, a.is, subst (Contains records) (ap covering a.is ∙ covering_admission a.slice a.valid) at)
covered_slice records item (inr t) c = absurd (not_covering item _ (and_left _ _ c) t.is)

-- a covered slice, as words tell it
abbrev IsCoveredThere : List ℕ → RecordFault → Type 0
IsCoveredThere text fault = (records : List (List ℕ)) × (slice : List ℕ) × (rest : List ℕ)
    × IsLongestFront Archive text records × StandsCovered text records slice rest
    × (fault.offset ≡ front_length records)

covered_behind : (text : List ℕ) (fault : RecordFault) (records : List (List ℕ))
    (front : IsGoodFront Archive text records) → IsFaultAfter Archive records front.rest fault → fault.kind ≡ Covered
    → IsCoveredThere text fault
covered_behind text fault records front f e =
    let behind = behind_covered Archive records front.rest fault e f in
    let next = behind.0.1 in
    let found = covered_slice records next.item next.is next.covered in (
      records,
      found.0,
      next.more,
      fault_longest Archive text records front fault f,
      (found.1, front.whole ∙ ap (λ (t : List ℕ). magic ++ (concat records ++ t)) (next.whole ∙ ap (λ (t : List ℕ). t ++ next.more) found.2), found.3),
      behind.1,
    )

covered_in : (file : Format) (text : List ℕ) (fault : RecordFault) → IsFaultOf file text fault → fault.kind ≡ Covered → IsCoveredThere text fault
covered_in file text fault (inl m) e = absurd (no_magic_covers file text fault.kind e m.0)
covered_in Archive text fault (inr f) e = covered_behind text fault f.0 f.1 f.3 e
covered_in file text fault (inr f) e = absurd (behind_covered file f.0 f.1.rest fault e f.3).0

pub is_covered_there : (text : List ℕ) (fault : RecordFault) → IsFault text fault → fault.kind ≡ Covered → IsCoveredThere text fault
is_covered_there text fault f e = covered_in (archive_format text) text fault f e

pub told_covered : (text : List ℕ) (records : List (List ℕ)) (front : IsGoodFront Archive text records)
    (slice rest : List ℕ) → IsValid slice → front.rest ≡ admission_record slice ++ rest
    → may_follow Archive (last_of [] records) (admission_record slice) ≡ true
    → Contains records (retirement_record (key_of slice) (sha256 slice)) → IsFault text (record { kind = Covered; offset = front_length records })
told_covered text records front slice rest valid whole above there =
    let told : IsFaultOf Archive text (record { kind = Covered; offset = front_length records }) =
    inr (
      records,
      front,
      tt,
      inl (
        inr (
          refl,
          record {
            item = admission_record slice;
            more = rest;
            whole = whole;
            is = inl (record { slice = slice; valid = valid; is = refl });
            above = above;
            covered = in_set records (covering (admission_record slice)) (subst (Contains records) (sym (covering_admission slice valid)) there);
          },
        ),
        refl,
      ),
    ) in
    subst (λ (f : Format). IsFaultOf f text (record { kind = Covered; offset = front_length records }))
    (sym (format_magic Archive refl text (concat records ++ front.rest) front.whole)) told

-- a text of version 1 has no such fault
pub old_uncovered : (text rest : List ℕ) (fault : RecordFault) → text ≡ old_magic ++ rest → IsFault text fault → fault.kind ≢ Covered
old_uncovered text rest fault e f =
    uncovered OldArchive (λ _ _ _ none. none) text fault (subst (λ (file : Format). IsFaultOf file text fault) (format_magic OldArchive refl text rest e) f)
