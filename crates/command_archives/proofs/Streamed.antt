-- IN's archive, merged as it comes with what is at hand or with the one FILE of `merge`: what came of it.
use Rattle.std.proofs.Common.{◌≡◌, ℕ, List, [], ◌++◌, length, Option, Result, Ok, Err, refl, ap, sym, subst, arith, ◌⊎◌, inl, inr, Bool, map, ◌∙◌, ◌∷◌, Some}
use Rattle.std.specs.FinSet as set
use Rattle.archive_core.specs.Content.{Operations, IsContent, joined, content_of, is_covered}
use Rattle.archive_records.specs.declared.fault.MergeCause.{MergeCause}
use Rattle.archive_records.specs.declared.fault.MergeCause.TheVariants.{Left, Right, Write}
use Rattle.archive_records.specs.declared.fault.MergeFault.{MergeFault}
use Rattle.archive_records.specs.declared.fault.RecordFault.{RecordFault}
use Rattle.archive_records.specs.declared.fault.RecordFaultKind.TheVariants.{Device, OutOfMemory as RecordOutOfMemory}
use Rattle.archive_records.specs.declared.writing.Sizes.{Sizes}
use Rattle.archive_records.specs.Text.{written, IsArchiveOf, old_written}
use Rattle.archive_records.specs.Writing.{IsWrittenWhole}
use Rattle.byte_device.specs.Devices.{FailedIn, Stream, stream}
use Rattle.byte_device.specs.Writes.{WritesFirst}
use Rattle.text_reports.specs.Report.{archive_line}
use Rattle.archive_merge.specs.Merging.{GainsCount, IsMerged, IsRefusedAlone, Merges, StopsBy}
use Rattle.command_common.specs.declared.faults.CommandFault.{CommandFault}
use Rattle.command_common.specs.declared.faults.CommandFault.TheVariants.{Input, Output, Report, OutOfMemory}
use Rattle.command_common.specs.declared.faults.InputName.{InputName}
use Rattle.command_common.specs.declared.faults.Status.{Status}
use Rattle.command_common.specs.declared.faults.Why.{Why}
use Rattle.command_common.specs.Ends.{Command, EndsStreamed, HasFirst, HasTaken, MakesArchive, StopsAmidst, writes_amidst}
use Rattle.command_common.specs.Ends.{IsStopped}
use Rattle.command_common.specs.Inputs.{HoldsArchive, IsKnown, IsRefusedArchive, Reader, Unfailed, reader, EachUnfailed}
use Rattle.command_common.specs.Inputs.{IsDeviceFault, IsGivenArchive}
use Rattle.command_common.specs.Outputs.{Out, PublishesNothing, Publishes, Takes, Writer, sizes_of, writer, Outs}
use Rattle.command_common.specs.Outputs.{draft_of, out_of}
use Rattle.command_common.proofs.Amidst.{gives_known, stopped_amidst, stops_alike}
use Rattle.command_archives.specs.Begun.{BeginsGood, EndsBegun, HasBegun, IsUnfinished}
use Rattle.command_archives.specs.Joining.{IsAtHand, IsJoined, MakesJoin, joining}
use Rattle.command_archives.specs.MergeStreams.{IsMergeFaultTold, IsSide, StopsMergeOfOne, merge_as_it_comes, merge_of_one}
use Rattle.command_archives.proofs.Beginnings.{first_of_good, first_of_join, good_content}
use Rattle.command_archives.proofs.Begun.{accepted, begun, published, taken_begun}
use Rattle.join_core.specs.Listing.{listing}
use Rattle.std.specs.List.{list_any}
use Rattle.archive_records.proofs.Versions.{made_content, one_content}
use Rattle.archive_merge.specs.ArrivalMerge.{HasOperations, IsMergedWithArrivals}
use Rattle.archive_merge.specs.Arrivals.{arrival_of}
use Rattle.archive_merge.specs.declared.arrivals.Arrival.{Arrival}
use Rattle.archive_merge.proofs.ArrivalsAtEnd.{one_set}
use Rattle.command_archives.specs.InnerArrivalJoins.{HoldsVersion1Text, IsJoinedWithArrivals}
use Rattle.command_archives.specs.Merge.{MakesMerged, merge_in_turn}
use Rattle.command_common.proofs.Readers.{by_device}

sizes_are : (sizes : Sizes) (o : Operations) → sizes.records ≡ (sizes_of o).records → sizes.bytes ≡ (sizes_of o).bytes → sizes ≡ sizes_of o
sizes_are sizes o r b = λ i. record { records = r i; bytes = b i }

-- ---- a command whose archive was written

-- it is published
pub archive_published : (Makes : Operations → List ℕ → Type 0) (Stops : CommandFault → Type 0) (NoneFailed : Type 0)
    {W : Type 0} (draft : Stream W) (sizes : Sizes) (o : Operations) (lines : List ℕ) (out : Out) (report : Writer)
    (result : Result Status CommandFault)
    → NoneFailed → Makes o lines → IsWrittenWhole draft.bytes draft.failures draft.old draft.new (set.len o) (written o)
    sizes → Publishes out report (written o) (lines ++ archive_line sizes) result
    → EndsStreamed (record { Makes = MakesArchive Makes; Stops = Stops; Unfailed = NoneFailed }) out report result
archive_published Makes Stops NoneFailed draft sizes o lines out report result unfailed makes whole =
    published out report (record { Makes = MakesArchive Makes; Stops = Stops; Unfailed = NoneFailed }) result (written o) (lines ++ archive_line sizes) unfailed
    (record {
      content = o;
      lines = lines;
      makes = makes;
      text_is = refl;
      told_is =
          ap (λ (s : Sizes). lines ++ archive_line s) (sizes_are sizes o whole.records_are whole.bytes_are);
    })

-- one that was stopped
pub stopped_begun : {R : Type 0} (input : Reader R) (command : Reader R → Command) (out : Out) (report : Writer)
    (fault : CommandFault) → StopsAmidst (command input) (IsKnown input) out.draft fault
    → IsUnfinished input (Unit {0}) command (Unit {0}) out.draft → HasTaken out.draft fault → PublishesNothing out
    → Takes report [] → EndsBegun input command out report (Err fault)
stopped_begun input command out report fault s u taken nothing unreported =
    begun out report input (Unit {0}) command (Unit {0}) (writes_amidst (command input) (IsKnown input) out.draft) u (Err fault)
    (stopped_amidst (command input).Makes (command input).Refuses (command input).Unfailed (IsKnown input) out report
    fault s taken nothing unreported)

module _ {R : Type 0} (input : Reader R) (p : Operations) (Makes : Reader R → Operations → List ℕ → Type 0)
    (makes : (given : Reader R) (o : Operations) (lines : List ℕ) → Makes given o lines → (before : Operations)
    × IsContent before × HoldsArchive given before × (o ≡ joined before p)) where
  abbrev command : Reader R → Command
  command given = record { Makes = MakesArchive (Makes given); Refuses = IsRefusedArchive 0 given; Unfailed = Unfailed given }

  makes_join : (given : Reader R) (text told : List ℕ) → MakesArchive (Makes given) text told → MakesJoin given p text told
  makes_join given text told m =
      let j = makes given m.content m.lines m.makes in
      record { content = j.0; is_content = j.1; archive = j.2; text_is = m.text_is ∙ ap written j.3 }

  -- what stops a join stops what makes no more
  pub join_stops : (draft : Writer) (fault : CommandFault) → StopsAmidst (joining input p) (IsKnown input) draft fault
      → StopsAmidst (command input) (IsKnown input) draft fault
  join_stops draft =
      stops_alike (MakesJoin input p) (MakesArchive (Makes input)) (IsRefusedArchive 0 input) (IsRefusedArchive 0 input)
      (Unfailed input) (Unfailed input) (IsKnown input) (IsKnown input) draft (makes_join input) (λ at why r. r) (λ u. u) (λ k. k)

  -- and leaves it a draft as that
  pub join_unfinished : (draft : Writer) → IsUnfinished input (Unit {0}) (λ given. joining given p) (Unit {0}) draft
      → IsUnfinished input (Unit {0}) command (Unit {0}) draft
  join_unfinished draft =
      accepted input (Unit {0}) command (Unit {0}) draft (Unit {0}) (λ given. joining given p) (Unit {0}) tt (λ k. k)
      (λ k given text told m. (told, makes_join given text told m))

  pub join_stopped : (out : Out) (report : Writer) (fault : CommandFault)
      → StopsAmidst (joining input p) (IsKnown input) out.draft fault
      → IsUnfinished input (Unit {0}) (λ given. joining given p) (Unit {0}) out.draft → HasTaken out.draft fault
      → PublishesNothing out → Takes report [] → EndsBegun input command out report (Err fault)
  join_stopped out report fault s u =
      stopped_begun input command out report fault (join_stops out.draft fault s) (join_unfinished out.draft u)

-- what a join makes is published
pub join_published : {R W : Type 0} (input : Reader R) (p : Operations) (Makes : Reader R → Operations → List ℕ → Type 0)
    (draft : Stream W) (sizes : Sizes) (j : IsJoined input p draft sizes) (lines : List ℕ)
    → Makes input (joined j.content p) lines
    → (out : Out) (report : Writer) (result : Result Status CommandFault)
    → Publishes out report (written (joined j.content p)) (lines ++ archive_line sizes) result
    → EndsBegun input (λ given. record { Makes = MakesArchive (Makes given); Refuses = IsRefusedArchive 0 given; Unfailed = Unfailed given })
    out report result
join_published input p Makes draft sizes j lines makes out report result =
    archive_published (Makes input) _ (Unfailed input) draft sizes (joined j.content p) lines out report result j.unfailed makes
    j.written_is

-- what a draft has where a merge into it was stopped
module _ {R S W : Type 0} (left : R → Option (List ℕ)) (failures : R → ℕ) (l l' : R) (other : Stream S)
    (held : W → Option (List ℕ)) (draft_failures : W → ℕ) (w w' : W) where
  begun_by : (cause : MergeCause) (n : ℕ) → StopsBy (stream left failures l l') other (stream held draft_failures w w')
      cause n → Takes (writer held draft_failures w w') [] ⊎ (Unit {0} × HasBegun (reader left failures l l'))
  begun_by (Left why) n s = elim s.order [
    | inl magic ↦ inl (magic.0.2, s.out_unfailed)
    | inr behind ↦ inr (tt, taken_begun (stream left failures l l') behind.lefts behind.left_next behind.left_taken)
  ]
  begun_by (Right why) n s = elim s.order [
    | inl magic ↦ inl (magic.0.2, s.out_unfailed)
    | inr behind ↦ inr (tt, taken_begun (stream left failures l l') behind.lefts behind.left_next behind.left_taken)
  ]
  begun_by Write n s = inr (tt, s.left_begun)

module _ {S : Type 0} (left2 : S → Option (List ℕ)) (failures2 : S → ℕ) (r r' : S) (p : Operations) (at : IsAtHand (stream left2 failures2 r r') p) where
  abbrev other : Stream S
  other = stream left2 failures2 r r'

  -- so it is refused for want of memory alone
  right_memory : (why : RecordFault) → IsRefusedAlone other why → why.kind ≡ RecordOutOfMemory
  right_memory why refused =
      let alone : (m : Operations) → IsContent m → IsArchiveOf m at.text → (why.kind ≡ Device) ⊎ (why.kind ≡ RecordOutOfMemory) = rw at.bytes at refused.1 in
      elim (alone p at.is_content at.is_text) [
        | inl device ↦ let failed : FailedIn (failures2 r) (failures2 r') = refused.0.blames.0 device
            in absurd (omega (arith, at.unfailed_before, at.unfailed, failed))
        | inr memory ↦ memory
      ]

  -- ---- an archive

  module _ {R W : Type 0} (left : R → Option (List ℕ)) (failures : R → ℕ) (l l' : R) (held : W → Option (List ℕ)) (draft_failures : W → ℕ) (w w' : W) where
    abbrev input : Reader R
    input = reader left failures l l'

    abbrev draft : Writer
    draft = writer held draft_failures w w'

    abbrev MergesSo : Result Sizes MergeFault → Type 0
    MergesSo result = Merges (stream left failures l l') other (stream held draft_failures w w') result

    -- it was merged
    unfoldable pub joined_opened : (sizes : Sizes) → MergesSo (Ok sizes) → IsJoined input p (stream held draft_failures w w') sizes
    joined_opened sizes merges =
        let m : IsMerged (stream left failures l l') other (stream held draft_failures w w') sizes = merges in
        let alone : (q : Operations) → IsContent q → IsArchiveOf q at.text → m.p ≡ q = rw at.bytes at m.right_is.alone in
        let same : m.p ≡ p = alone p at.is_content at.is_text in
        record {
          content = m.o;
          is_content = m.left_is.is;
          archive = m.left_is.text;
          unfailed = m.left_is.unfailed;
          written_is = subst (λ (q : Operations). IsWrittenWhole held draft_failures w w' (set.len (joined m.o q))
              (written (joined m.o q)) sizes) same m.written_is;
        }

    -- a first part of the join was written
    first : (e : MergeFault) → MergesSo (Err e) → HasFirst (joining input p) (IsKnown input) draft e.written
    first e merges known text told m =
        let given = gives_known left failures l l' m.content known m.archive in
        subst (λ (t : List ℕ). WritesFirst (held w) (held w') t e.written) (sym m.text_is)
        (first_of_join (left l) (left2 r) (held w) (held w') e.written m.content p given.0 at.text m.is_content
        at.is_content given.1 at.is_text given.2 at.bytes merges.1)

    -- and of what its good records make with this content
    good : (e : MergeFault) → MergesSo (Err e) → BeginsGood (λ given. joining given p) input draft
    good e merges bytes records sound text told given are is m =
        let held_text : IsArchiveOf m.content is.0 = rw is.2 at m.archive in
        let same : m.content ≡ content_of (set.from_list records) =
        one_content is.0 m.content (content_of (set.from_list records)) m.is_content (good_content bytes records are)
        held_text is.1 in (
          e.written,
          subst (λ (t : List ℕ). WritesFirst (held w) (held w') t e.written)
              (sym (m.text_is ∙ ap (λ (q : Operations). written (joined q p)) same))
              (first_of_good (left l) (left2 r) (held w) (held w') e.written records p bytes at.text at.is_content
              at.is_text given at.bytes are merges.1),
        )

    pub unfinished_opened : (e : MergeFault) → MergesSo (Err e)
        → IsUnfinished input (Unit {0}) (λ given. joining given p) (Unit {0}) draft
    unfinished_opened e merges = record {
      no_text = merges.2;
      begun = begun_by left failures l l' other held draft_failures w w' e.cause e.written merges.0;
      good = λ known. good e merges;
    }

    -- what stopped it stops the command
    stops : (cause : MergeCause) (n : ℕ) (fault : CommandFault)
        → StopsBy (stream left failures l l') other (stream held draft_failures w w') cause n
        → HasFirst (joining input p) (IsKnown input) draft n
        → IsMergeFaultTold (record { cause = cause; written = n }) fault → StopsAmidst (joining input p) (IsKnown input) draft fault
    stops (Left why) n (Input place says) s f t = ((t.0, (why, t.1, t.2, s.refused)), s.out_unfailed, (n, f))
    stops (Left why) n (Output k) s f t = absurd (cc (ap (λ (e : MergeFault). e.cause) t))
    stops (Left why) n OutOfMemory s f t = (s.refused.0.blames.1 (λ device. cc), s.out_unfailed, (n, f))
    stops (Right why) n (Input place says) s f t = absurd (t.2 (right_memory why s.refused))
    stops (Right why) n (Output k) s f t = absurd (cc (ap (λ (e : MergeFault). e.cause) t))
    stops (Right why) n OutOfMemory s f t = (s.left_unfailed, s.out_unfailed, (n, f))
    stops Write n (Output k) s f t = (
      s.left_unfailed,
      s.failed,
      subst (HasFirst (joining input p) (IsKnown input) draft) (ap (λ (e : MergeFault). e.written) t) f,
    )
    stops cause n fault s f t = absurd t

    pub stopped_opened : (e : MergeFault) (fault : CommandFault) → MergesSo (Err e) → IsMergeFaultTold e fault
        → StopsAmidst (joining input p) (IsKnown input) draft fault
    stopped_opened e fault merges told = stops e.cause e.written fault merges.0 (first e merges) told

-- what is told of OUT is how much was written when the merge was stopped
pub counted : (e : MergeFault) (fault : CommandFault) (k n : ℕ) → k ≡ e.written → IsMergeFaultTold e fault → fault ≡ Output n → n ≡ k
counted e (Output m) k n is told h = cc (ap (λ (f : MergeFault). f.written) told)
counted e (Report m) k n is told h = absurd told
counted e fault k n is told h = cc

-- its draft took as much
pub taken_of : {W : Type 0} (held : W → Option (List ℕ)) (failures : W → ℕ) (w w' : W) (e : MergeFault)
    (fault : CommandFault) → GainsCount (stream held failures w w') e.written → IsMergeFaultTold e fault
    → HasTaken (writer held failures w w') fault
taken_of held failures w w' e fault g told = (g.0, g.1, λ n h. counted e fault (length g.0) n (sym g.2) told h)

-- so the archive that they make is at hand
pub makes_at_hand : {S : Type 0} (side : Stream S) (operations : Operations) → HoldsVersion1Text side operations → IsAtHand side (content_of operations)
makes_at_hand side operations at = record {
  is_content = made_content operations at.are;
  text = old_written operations;
  is_text = inr (record { operations = operations; are = at.are; whole = refl; makes = refl });
  bytes = at.bytes;
  unfailed_before = at.unfailed_before;
  unfailed = at.unfailed;
}

module _ {S : Type 0} (left2 : S → Option (List ℕ)) (failures2 : S → ℕ) (r r' : S) (operations : Operations)
    (at : HoldsVersion1Text (stream left2 failures2 r r') operations)
    {R W : Type 0} (left : R → Option (List ℕ)) (failures : R → ℕ) (l l' : R) (held : W → Option (List ℕ)) (draft_failures : W → ℕ) (w w' : W) where
  pub told_opened : (sizes : Sizes) (arrived : List Arrival) (withdraws : Bool)
      → IsMergedWithArrivals (stream left failures l l') (stream left2 failures2 r r') (stream held draft_failures w w')
      sizes arrived withdraws → IsJoinedWithArrivals (reader left failures l l') operations (stream held draft_failures w w')
      sizes arrived withdraws
  unfolding joined_opened
  told_opened sizes arrived withdraws t =
      let has : HasOperations t.operations (old_written operations) = rw at.bytes at t.right_is in
      let same : t.operations ≡ operations = one_set (old_written operations) t.operations operations has (record { are = at.are; whole = inr refl }) in
      record {
        joined = joined_opened left2 failures2 r r' (content_of operations)
            (makes_at_hand (stream left2 failures2 r r') operations at) left failures l l' held draft_failures w w'
            sizes t.merged;
        arrivals_are = t.arrivals_are ∙ ap (λ (q : Operations). map (arrival_of t.merged.o) (listing q)) same;
        withdraws_is = t.withdraws_is ∙ ap (λ (q : Operations). list_any (is_covered q) (listing t.merged.o)) same;
      }

-- ---- one FILE

module _ {R S D T : Type 0} (left : R → Option (List ℕ)) (failures : R → ℕ) (l l' : R) (left2 : S → Option (List ℕ))
    (failures2 : S → ℕ) (r r' : S) (out : Outs D T) (report : Writer) where
  abbrev left_input : Reader R
  left_input = reader left failures l l'

  abbrev right_input : Reader S
  right_input = reader left2 failures2 r r'

  abbrev EndsSo : Result Status CommandFault → Type 0
  EndsSo result = EndsStreamed (merge_of_one left_input right_input (draft_of out)) (out_of out) report result

  -- the merge was stopped
  pub stopped : (e : MergeFault) (fault : CommandFault) → Merges (stream left failures l l') (stream left2 failures2 r r') (draft_of out) (Err e)
      → GainsCount (draft_of out) e.written → IsMergeFaultTold e fault → PublishesNothing (out_of out) → Takes report [] → EndsSo (Err fault)
  stopped e fault merges count told nothing_published unreported = by_fault fault told
    where
      is : (f : CommandFault) → IsMergeFaultTold e f → IsStopped (merge_of_one left_input right_input (draft_of out)) (out_of out) report f
      is f t = record {
        stops = record { stopped = e; merges = merges; count = count; told = t };
        bytes = count.0;
        took = count.1;
        count = λ n h. counted e f (length count.0) n (sym count.2) t h;
        nothing_published = nothing_published;
        unreported = unreported;
      }

      by_fault : (f : CommandFault) → IsMergeFaultTold e f → EndsSo (Err f)
      by_fault (Input at why) t = is (Input at why) t
      by_fault (Report n) t = absurd t
      by_fault f t = inl (is f t)

  -- it was done, and is published
  pub merged : (draft : D) (sizes : Sizes) (m : IsMerged (stream left failures l l') (stream left2 failures2 r r')
      (stream out.held out.draft_failures out.old.draft draft) sizes) (lines : List ℕ) → lines ≡ []
      → (result : Result Status CommandFault) → Publishes (out_of out) report (written (joined m.o m.p)) (lines ++ archive_line sizes) result → EndsSo result
  merged draft sizes m lines none result =
      archive_published (MakesMerged left_input (right_input ∷ [])) _
      (Unfailed left_input × EachUnfailed (right_input ∷ []))
      (stream out.held out.draft_failures out.old.draft draft) sizes (joined m.o m.p) lines (out_of out) report
      result
      (m.left_is.unfailed, (m.right_is.unfailed, tt))
      (record {
        before = m.o;
        contents = m.p ∷ [];
        is_content = m.left_is.is;
        are_contents = (m.right_is.is, tt);
        archive = m.left_is.text;
        files_are = (m.right_is.text, tt);
        content_is = refl;
        lines_are = none;
      })
      m.written_is

-- ---- more than one FILE, or none

module _ {R S D T : Type 0} (input : Reader R) (out : Outs D T) (report : Writer) (result : Result Status CommandFault) where
  pub of_many : (files : List (Reader S)) → (length files ≡ 1 → ⊥) → EndsStreamed (merge_in_turn input files (out_of out).draft) (out_of out) report result
      → EndsStreamed (merge_as_it_comes input files out) (out_of out) report result
  of_many (_ ∷ []) many e = absurd (many refl)
  of_many files many e = e

-- ---- accepted inputs

device_side : {R S W : Type 0} (left : Stream R) (right : Stream S) (out : Stream W) (o p : Operations) (at : InputName)
    (why : Why) (cause : MergeCause) (n : ℕ) (t u : List ℕ) → IsContent o → IsContent p → IsArchiveOf o t
    → IsArchiveOf p u → left.bytes left.old ≡ Some t → right.bytes right.old ≡ Some u
    → StopsBy left right out cause n → IsSide cause at why → IsDeviceFault why
device_side left right out o p at why (Left fault) n t u co cp is_o is_p go gp s told = by_device fault why told.1 told.2 ((rw go at s.refused.1) o co is_o)
device_side left right out o p at why (Right fault) n t u co cp is_o is_p go gp s told = by_device fault why told.1 told.2 ((rw gp at s.refused.1) p cp is_p)
device_side left right out o p at why Write n t u co cp is_o is_p go gp s told = absurd told

module _ {R S D : Type 0} (left : R → Option (List ℕ)) (failures : R → ℕ) (left2 : S → Option (List ℕ))
    (failures2 : S → ℕ) (new : R) (new2 : S) (draft : Stream D) where
  abbrev StopsSo : R → S → CommandFault → Type 0
  StopsSo old old2 fault = StopsMergeOfOne (reader left failures old new) (reader left2 failures2 old2 new2) draft fault

  pub one_device : (old : R) (old2 : S) (o p : Operations) (at : InputName) (why : Why) → IsContent o → IsContent p
      → IsGivenArchive (reader left failures old new) o → IsGivenArchive (reader left2 failures2 old2 new2) p
      → StopsSo old old2 (Input at why) → IsDeviceFault why
  one_device old old2 o p at why co cp go gp s =
      device_side (stream left failures old new) (stream left2 failures2 old2 new2) draft o p at why s.stopped.cause
      s.stopped.written go.0 gp.0 co cp go.1 gp.1 go.2 gp.2 s.merges.0 s.told
