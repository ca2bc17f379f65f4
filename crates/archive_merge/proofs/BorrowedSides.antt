-- Operations that stand in memory, read as the text that they would be.
use Rattle.std.proofs.Common.{◌≡◌, ◌≢◌, ℕ, ◌+◌, ◌^◌, ◌<◌, min, Bool, true, false, List, [], ◌∷◌, ◌++◌, length, take}
use Rattle.std.proofs.Common.{drop, Option, Some, Result, Ok, Err, MatchResult, refl, sym, ap, ◌∙◌, subst, arith, inl}
use Rattle.std.proofs.Common.{inr, length-append, length-take, take-append-drop, Ordering, Equal}
use Rattle.std.proofs.Math.ListN.{drop_of_length-le}
use Rattle.std.specs.Ordering.{nat_cmp, ordering_then, is_eq}
use Rattle.std.specs.Cmp.{Equal-is, tied_itself}
use Rattle.std.specs.Cmp.Lexicographic.{slice_cmp, nat_list_cmp_total}
use Rattle.archive_records.proofs.Fills.{cmp_parts}
use Rattle.archive_records.proofs.Puts.{head_and_slice}
use Rattle.archive_records.proofs.RecordSteps.{HasReadAll-grows, Stopped-with}
use Rattle.archive_core.specs.Key.{key_bytes}
use Rattle.archive_core.specs.Valid.{key_of}
use Rattle.archive_core.specs.Record.{admission_record, IsRecord}
use Rattle.std.specs.Int.{w64, to_be_bytes}
use Rattle.std.proofs.lemmas.List.{append-nil, take_all}
use Rattle.archive_core.proofs.Made.{bytes_same}
use Rattle.archive_records.specs.declared.fault.RecordFault.{RecordFault}
use Rattle.archive_records.specs.declared.fault.RecordFaultKind.TheVariants.{Truncated, Device, OutOfMemory, NotAscending}
use Rattle.archive_records.specs.declared.format.Format.TheVariants.{OldArchive}
use Rattle.archive_records.specs.declared.format.Format.{Format}
use Rattle.archive_records.specs.Kind.{kind_of, may_follow}
use Rattle.archive_records.specs.Layout.{framed}
use Rattle.archive_records.specs.Fault.{next, next_by, tested}
use Rattle.archive_records.specs.Text.{end_record, last_of}
use Rattle.archive_records.specs.Reader.{Finishes, HasReadAll, HasWhole, Position, StoppedWith, StopsAt, beside}
use Rattle.archive_records.proofs.Forms.{item-framed, item-no_end}
use Rattle.archive_merge.specs.declared.side.Lookahead.{Lookahead}
use Rattle.archive_merge.specs.declared.side.Lookahead.TheVariants.{Unread, Held, Ended}
use Rattle.archive_merge.specs.declared.side.MergeInput.{MergeInput}
use Rattle.archive_merge.specs.Borrowed.{AdvancesTo, StepsBy}
use Rattle.archive_merge.specs.MergeSteps.{Stands, memory_after}
use Rattle.archive_merge.specs.Sides.{side_with}
use Rattle.archive_merge.proofs.Starts.{stands_held}

-- ---- a record that stands in two parts

-- it compares as its parts do
pub compared : (item front rest head tail : List ℕ) (n : ℕ) → n ≡ min (length front) (length item) → head ≡ take n item
    → tail ≡ drop n item → slice_cmp nat_cmp item (front ++ rest)
    ≡ ordering_then (slice_cmp nat_cmp head front) (slice_cmp nat_cmp tail rest)
compared item front rest head tail n is head_is tail_is =
    ap (λ (t : List ℕ). slice_cmp nat_cmp t (front ++ rest)) (sym (take-append-drop n item))
    ∙ cmp_parts (take n item) (drop n item) front rest (omega (arith, is, length-take n item))
    (λ lt. drop_of_length-le item (omega (arith, is, length-take n item)))
    ∙ ap (λ (t : List ℕ). ordering_then (slice_cmp nat_cmp t front) (slice_cmp nat_cmp (drop n item) rest)) (sym head_is)
    ∙ ap (λ (t : List ℕ). ordering_then (slice_cmp nat_cmp head front) (slice_cmp nat_cmp t rest)) (sym tail_is)

pub then_first : (o p : Ordering) → (o ≡ Equal → ⊥) → ordering_then o p ≡ o
then_first o p other = grind arith

-- how long an admission is
pub long_parts : (head bytes slice : List ℕ) → head ≡ 2 ∷ (key_bytes (key_of slice) ++ to_be_bytes w64 (length slice))
    → length head ≡ 33 → bytes ≡ slice → 33 + length bytes ≡ length (admission_record slice)
long_parts head bytes slice head_is long is = omega (arith, long, ap length (head_and_slice head bytes slice head_is is), length-append head bytes)

-- ---- one step

nothing_framed : framed OldArchive [] ≡ Err Truncated
unfolding framed
nothing_framed = refl

none_framed : (last : List ℕ) (count : ℕ) → next OldArchive last count [] ≡ Err Truncated
unfolding next
none_framed last count = ap (λ r. next_by OldArchive r last count []) nothing_framed

fails_test : (last x : List ℕ) (count : ℕ) → IsRecord x → may_follow OldArchive last x ≡ false → tested OldArchive last count x (length x) ≡ Err NotAscending
unfolding tested
fails_test last x count item below = rw (item-no_end OldArchive x item, take_all (length x) x (omega arith), below) refl

fails_next : (last x : List ℕ) (count : ℕ) → IsRecord x → may_follow OldArchive last x ≡ false → next OldArchive last count x ≡ Err NotAscending
unfolding next
fails_next last x count item below = ap (λ r. next_by OldArchive r last count x) (item-framed OldArchive x item) ∙ fails_test last x count item below

-- where a side stands
abbrev pub stood : List ℕ → ℕ → ℕ → List (List ℕ) → Bool → Position
stood last count offset retired dropped = record { file = OldArchive; last = last; count = count; offset = offset; retired = retired; dropped = dropped }

module _ (last : List ℕ) (count offset : ℕ) (retired : List (List ℕ)) (dropped : Bool) where
  -- of a text that another side has begun nothing is taken
  pub nothing_taken : (t : List ℕ) (fault : RecordFault) → fault ≡ memory_after offset → count < 2 ^ 63
      → (stop : StopsAt (Some t) (Some t) (stood last count offset retired dropped) fault) × (fault.kind ≢ Device)
      × (fault.kind ≢ Truncated) × (fault.kind ≡ OutOfMemory → HasWhole OldArchive stop.rest [])
  nothing_taken t fault is few = rw is (
    record {
      rest = [];
      taken = refl;
      unended = λ _. tt;
      fails = λ other. absurd (other refl);
      wanted = λ _. inl (inl (none_framed last count));
      offset_is = refl;
      few = few;
    },
    λ device. cc,
    λ truncated. cc,
    λ _. inr (nothing_framed, refl),
  )

  -- the end record
  pub ends : count < 2 ^ 63 → Finishes (Some (end_record count)) (Some []) (stood last count offset retired dropped) (stood [] count offset retired dropped)
  ends few = record { taken = sym (append-nil (end_record count)); ended = tt; file_is = refl; count_is = refl; offset_is = refl; few = few; retired_is = refl }

  module _ (x rest : List ℕ) (item : IsRecord x) (few : count + 1 < 2 ^ 63) where
    -- it does not ascend
    pub descends : may_follow OldArchive last x ≡ false
        → (stop : StopsAt (Some (x ++ rest)) (Some rest) (stood last count offset retired dropped)
        (record { kind = NotAscending; offset = offset })) × (NotAscending ≢ Device) × (NotAscending ≢ Truncated)
        × (NotAscending ≡ OutOfMemory → HasWhole OldArchive stop.rest last)
    descends below = (
      record {
        rest = x;
        taken = refl;
        unended = λ _. tt;
        fails = λ _. inl (inl (fails_next last x count item below));
        wanted = λ memory. cc;
        offset_is = refl;
        few = omega (arith, few);
      },
      λ device. cc,
      λ truncated. cc,
      λ memory. cc,
    )

    -- memory is wanted for it
    pub unkept : may_follow OldArchive last x ≡ true → (fault : RecordFault) → fault ≡ memory_after offset
        → (stop : StopsAt (Some (x ++ rest)) (Some rest) (stood last count offset retired dropped) fault)
        × (fault.kind ≢ Device) × (fault.kind ≢ Truncated)
        × (fault.kind ≡ OutOfMemory → HasWhole OldArchive stop.rest x)
    unkept above fault is = rw is (
      record {
        rest = x;
        taken = refl;
        unended = λ _. tt;
        fails = λ other. absurd (other refl);
        wanted = λ _. inr (record { item = item; follows = above; uncovered = λ version. cc });
        offset_is = refl;
        few = omega (arith, few);
      },
      λ device. cc,
      λ truncated. cc,
      λ _. inl (item, refl),
    )

-- ---- what a merge is told of it

module _ (a b c : Option (List ℕ)) (done : List (List ℕ)) (low : List ℕ) (shared : List (List ℕ)) (now new : MergeInput)
    (unread : now.ahead ≡ Unread) (s : Stands a b done low
    (record { reader = beside (Some shared) now.reader; ahead = now.ahead })) where
  abbrev before : Position
  before = beside (Some shared) now.reader

  abbrev after : Position
  after = beside (Some shared) new.reader

  stands_by : (ahead : Lookahead) → ahead ≡ new.ahead → StepsBy b c before after ahead → Stands a c done low (record { reader = after; ahead = new.ahead })
  stands_by Unread is steps = absurd steps
  stands_by Held is steps =
      let read = s.unread unread in
      subst (λ (t : List ℕ). Stands a c done t (record { reader = after; ahead = new.ahead })) read.1
      (stands_held a b c done before (record { reader = after; ahead = new.ahead }) s.archive read.0 steps (sym is))
  stands_by Ended is steps = record {
    archive = ap kind_of steps.0.file_is ∙ s.archive;
    unread = λ t. absurd cc;
    held = λ t. absurd cc;
    ended = λ _. (
      subst (λ (f : Format). HasReadAll f a c done after) (sym steps.0.file_is)
          (HasReadAll-grows before.file a b c done before after (s.unread unread).0 steps.0),
      steps.1,
    );
  }

  pub stands_on_by : {T : Type 0} (r : Result T RecordFault) → AdvancesTo b c before after new.ahead r
      → MatchResult r (λ _. Stands a c done low (record { reader = after; ahead = new.ahead }))
      (λ fault. StoppedWith now.reader.file a c done fault new.reader.last × (last_of [] done ≡ low))
  stands_on_by (Ok done) steps = stands_by new.ahead refl steps
  stands_on_by (Err fault) stops =
      let read = s.unread unread in
      (Stopped-with before.file a b c done before after.last fault read.0 stops.0 stops.3, read.1)

pub stands_on : {T : Type 0} (a b c : Option (List ℕ)) (done : List (List ℕ)) (low : List ℕ) (shared : List (List ℕ))
    (now new : MergeInput) (r : Result T RecordFault) → now.ahead ≡ Unread
    → AdvancesTo b c (beside (Some shared) now.reader) (beside (Some shared) new.reader) new.ahead r
    → Stands a b done low (side_with shared now) → MatchResult r (λ _. Stands a c done low (side_with shared new))
    (λ fault. StoppedWith now.reader.file a c done fault new.reader.last × (last_of [] done ≡ low))
stands_on a b c done low shared now new r unread steps s = stands_on_by a b c done low shared now new unread s r steps

-- ---- the same record

pub equal_bytes : (xs ys : List ℕ) → (is_eq (slice_cmp nat_cmp xs ys) ≡ true → xs ≡ ys) × (xs ≡ ys → is_eq (slice_cmp nat_cmp xs ys) ≡ true)
equal_bytes xs ys = (
  λ equal. bytes_same xs ys ((Equal-is (slice_cmp nat_cmp xs ys)).0 equal),
  λ same. ap is_eq (ap (λ (t : List ℕ). slice_cmp nat_cmp xs t) (sym same) ∙ tied_itself nat_list_cmp_total xs),
)
