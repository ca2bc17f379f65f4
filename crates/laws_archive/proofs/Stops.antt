-- What a command leaves that is stopped before its text is whole.
use Rattle.std.proofs.Common.{◌≡◌, ℕ, List, [], ◌∷◌, ◌++◌, Option, Some, None, Err, sym, ap, ◌∙◌, subst, take, inl, inr, IfSome}
use Rattle.std.proofs.lemmas.List.{append_cancel_left}
use Rattle.std.proofs.lemmas.Option.{IfSome_then}
use Rattle.std.specs.Io.KnownBytes.{Appends}
use Rattle.std.specs.List.{AllByRecursion, AllZip}
use Rattle.byte_device.specs.Devices.{Stream, stream}
use Rattle.byte_device.specs.Writes.{WritesFirst}
use Rattle.std.specs.FinSet as set
use Rattle.archive_core.specs.Content.{Operations, IsContent, content_of, joined}
use Rattle.archive_records.specs.Text.{IsArchiveOf, written}
use Rattle.archive_records.specs.declared.fault.MergeFault.{MergeFault}
use Rattle.archive_merge.specs.Merging.{AreGoodRecords, IsArchiveText, Merges, of_both}
use Rattle.command_common.specs.Archives.{merged}
use Rattle.command_common.specs.declared.faults.CommandFault.{CommandFault}
use Rattle.command_common.specs.declared.faults.CommandFault.TheVariants.{Input, Output, Report, OutOfMemory}
use Rattle.command_common.specs.Ends.{Command, HasFirst, IsStopped, StopsAmidst, Streamed, writes_amidst}
use Rattle.command_common.specs.Ends.{writes_in_turn}
use Rattle.command_common.specs.Inputs.{EachKnown, HoldsArchive, IsGiven, IsGivenArchive, IsKnown, Reader}
use Rattle.command_common.specs.Outputs.{Out, Outs, Writer, draft_of, out_of}
use Rattle.command_archives.specs.Begun.{BeginsGood, TakesNoText, begins_after}
use Rattle.command_archives.proofs.Beginnings.{first_of_good, good_content}
use Rattle.command_archives.specs.Merge.{merge}
use Rattle.command_archives.specs.MergeStreams.{merge_of_one}
use Rattle.laws_archive.specs.Stops.{BeginsWith, LeavesBeginning}
use Rattle.laws_archive.proofs.Given.{is_given, one_given}

-- what was taken of a text are its first bytes
first_bytes : (xs ys bytes text : List ℕ) (n : ℕ) → ys ≡ xs ++ bytes → WritesFirst (Some xs) (Some ys) text n → BeginsWith text bytes
first_bytes xs ys bytes text n took first = (n, first.within, append_cancel_left xs bytes (take n text) (sym took ∙ first.gained))

module _ (Makes : List ℕ → List ℕ → Type 0) (Known : Type 0) where
  begins : (old new : Option (List ℕ)) (bytes : List ℕ) (n : ℕ) → Appends old new bytes
      → (Known → (text told : List ℕ) → Makes text told → WritesFirst old new text n)
      → IfSome old (λ _. Known → (text told : List ℕ) → Makes text told → BeginsWith text bytes)
  begins None new bytes n took first = tt
  begins (Some xs) None bytes n took first = absurd took
  begins (Some xs) (Some ys) bytes n took first = λ known text told m. first_bytes xs ys bytes text n took (first known text told m)

no_archive : (old new : Option (List ℕ)) (bytes : List ℕ) → Appends old new bytes
    → IfSome old (λ _. (taken : List ℕ) → Appends old new taken → IsArchiveText taken → ⊥) → IfSome old (λ _. IsArchiveText bytes → ⊥)
no_archive old new bytes took none = IfSome_then old none (λ _ never. never bytes took)

-- what was taken of the good records of the first input
goods : {R : Type 0} (command : Reader R → Command) (input : Reader R) (Known : Type 0) (old new : Option (List ℕ))
    (bytes : List ℕ) → Appends old new bytes
    → (Known → (whole : List ℕ) (records : List (List ℕ)) (sound : Reader R) (text told : List ℕ)
    → IsGiven input whole → AreGoodRecords whole records → IsGivenArchive sound (content_of (set.from_list records))
    → (command sound).Makes text told → (n : ℕ) × WritesFirst old new text n)
    → IfSome old (λ _. Known → (whole : List ℕ) (records : List (List ℕ)) (sound : Reader R) (text told : List ℕ)
    → IsGiven input whole → AreGoodRecords whole records → IsGivenArchive sound (content_of (set.from_list records))
    → (command sound).Makes text told → BeginsWith text bytes)
goods command input Known None new bytes took good = tt
goods command input Known (Some xs) None bytes took good = absurd took
goods command input Known (Some xs) (Some ys) bytes took good = λ known whole records sound text told given are is m.
    let first = good known whole records sound text told given are is m in
    first_bytes xs ys bytes text first.0 took first.1

module _ {R : Type 0} (command : Reader R → Command) (input : Reader R) (Known : Type 0) (out : Out) (report : Writer) where
  leaves : (streamed : Streamed) (fault : CommandFault) → IsStopped streamed out report fault → TakesNoText out.draft
      → (n : ℕ) → HasFirst (command input) (IsKnown input × Known) out.draft n
      → (Known → BeginsGood command input out.draft) → LeavesBeginning command input Known out report
  leaves streamed fault stopped none n first good = record {
    kept = stopped.nothing_published;
    unreported = stopped.unreported;
    bytes = stopped.bytes;
    took = stopped.took;
    no_text = no_archive out.draft.old out.draft.new stopped.bytes stopped.took none;
    begins = begins (command input).Makes (IsKnown input × Known) out.draft.old out.draft.new stopped.bytes n stopped.took first;
    good = goods command input Known out.draft.old out.draft.new stopped.bytes stopped.took good;
  }

amidst : (command : Command) (Known : Type 0) (draft : Writer) (fault : CommandFault)
    → StopsAmidst command Known draft fault → (n : ℕ) × HasFirst command Known draft n
amidst command Known draft (Input at why) s = s.2
amidst command Known draft (Output n) s = (n, s.2)
amidst command Known draft (Report n) s = absurd s
amidst command Known draft OutOfMemory s = s.2

-- a command that writes as its first input comes
module _ {R : Type 0} (command : Reader R → Command) (input : Reader R) (Accepted Known All : Type 0)
    (all : IsKnown input × Known → All) (out : Out) (report : Writer) where
  pub stopped_amidst : (fault : CommandFault)
      → IsStopped (begins_after input Accepted command Known out.draft (writes_amidst (command input) All out.draft))
      out report fault
      → LeavesBeginning command input Known out report
  stopped_amidst fault stopped =
      let some = amidst (command input) All out.draft fault stopped.stops.0 in
      let first : HasFirst (command input) (IsKnown input × Known) out.draft some.0 = λ known. some.1 (all known) in
      leaves command input Known out report _ fault stopped stopped.stops.1.no_text some.0 first stopped.stops.1.good

-- and one that reads what is after it before, and makes no empty text
module _ {R : Type 0} (command : Reader R → Command) (input : Reader R) (Accepted Wants Known : Type 0) (out : Out)
    (report : Writer)
    (nothing : (text told : List ℕ) → Appends out.draft.old out.draft.new [] → (command input).Makes text told
    → WritesFirst out.draft.old out.draft.new text 0) where
  abbrev All : Type 0
  All = IsKnown input × Known

  in_turn : (fault : CommandFault) → (writes_in_turn (command input) Wants All out.draft).Stops fault
      → (n : ℕ) × HasFirst (command input) All out.draft n
  in_turn (Input at why) s = amidst (command input) All out.draft (Input at why) s
  in_turn (Output n) s = amidst (command input) All out.draft (Output n) s
  in_turn (Report n) s = absurd s
  in_turn OutOfMemory (inl s) = amidst (command input) All out.draft OutOfMemory s
  in_turn OutOfMemory (inr wanted) = (0, λ known text told m. nothing text told wanted.1.0 m)

  pub stopped_in_turn : (fault : CommandFault)
      → IsStopped (begins_after input Accepted command Known out.draft (writes_in_turn (command input) Wants All out.draft))
      out report fault
      → LeavesBeginning command input Known out report
  stopped_in_turn fault stopped =
      let some = in_turn fault stopped.stops.0 in
      leaves command input Known out report _ fault stopped stopped.stops.1.no_text some.0 some.1 stopped.stops.1.good

-- ---- `merge` of one FILE

-- what a merge of texts has written that was stopped
abbrev pub WritesBeginning : (R S D : Type 0) → Type 0
WritesBeginning R S D = (left : Stream R) (right : Stream S) (draft : Stream D) (o p : Operations) (t u : List ℕ)
    (fault : MergeFault) → IsContent o → IsContent p → IsArchiveOf o t → IsArchiveOf p u → left.bytes left.old ≡ Some t
    → right.bytes right.old ≡ Some u → Merges left right draft (Err fault)
    → WritesFirst (draft.bytes draft.old) (draft.bytes draft.new) (written (joined o p)) fault.written

module _ {R S D T : Type 0} (law : WritesBeginning R S D) (input : Reader R) (file : Reader S) (out : Outs D T) (report : Writer) where
  abbrev left : Stream R
  left = stream input.left input.failures input.old input.new

  abbrev right : Stream S
  right = stream file.left file.failures file.old file.new

  first_of_both : (fault : MergeFault) → Merges left right (draft_of out) (Err fault) → IsKnown input → IsKnown file
      → (before : Operations) (contents : List Operations) → IsContent before → AllByRecursion IsContent contents
      → HoldsArchive input before → AllZip HoldsArchive (file ∷ []) contents
      → WritesFirst (out_of out).draft.old (out_of out).draft.new (written (merged before contents)) fault.written
  first_of_both fault merges known file_known before [] is are held each = absurd each
  first_of_both fault merges known file_known before (p ∷ []) is are held each =
      law left right (draft_of out) before p known.0 file_known.0 fault is are.0
      (is_given input known.0 (IsArchiveOf before) known.1 held) (is_given file file_known.0 (IsArchiveOf p) file_known.1 each.0)
      known.1 file_known.1 merges
  first_of_both fault merges known file_known before (p ∷ _ ∷ _) is are held each = absurd each.1

  first_of_goods : (fault : MergeFault) → Merges left right (draft_of out) (Err fault) → IsKnown file → (whole : List ℕ)
      (records : List (List ℕ)) → IsGiven input whole → AreGoodRecords whole records → (before : Operations)
      → before ≡ content_of (set.from_list records) → (contents : List Operations) → AllByRecursion IsContent contents
      → AllZip HoldsArchive (file ∷ []) contents
      → WritesFirst (out_of out).draft.old (out_of out).draft.new (written (merged before contents)) fault.written
  first_of_goods fault merges known whole records given are before is [] contents each = absurd each
  first_of_goods fault merges known whole records given are before is (p ∷ []) contents each =
      subst (λ (o : Operations). WritesFirst (out_of out).draft.old (out_of out).draft.new (written (joined o p)) fault.written) (sym is)
      (first_of_good (left.bytes left.old) (right.bytes right.old) (out_of out).draft.old (out_of out).draft.new
      fault.written records p whole known.0 contents.0
      (is_given file known.0 (IsArchiveOf p) known.1 each.0) given known.1 are merges.1)
  first_of_goods fault merges known whole records given are before is (p ∷ _ ∷ _) contents each = absurd each.1

  pub stopped_of_one : (fault : CommandFault) → IsStopped (merge_of_one input file (draft_of out)) (out_of out) report fault
      → LeavesBeginning (λ given. merge given (file ∷ [])) input (EachKnown (file ∷ [])) (out_of out) report
  stopped_of_one fault stopped =
      let s = stopped.stops in
      leaves (λ given. merge given (file ∷ [])) input (EachKnown (file ∷ [])) (out_of out) report _ fault stopped s.merges.2 s.stopped.written
      (λ known text told m. subst (λ (t : List ℕ). WritesFirst (out_of out).draft.old (out_of out).draft.new t s.stopped.written)
      (sym (m.text_is ∙ ap written m.makes.content_is))
      (first_of_both s.stopped s.merges known.0 known.1.0 m.makes.before m.makes.contents m.makes.is_content m.makes.are_contents
      m.makes.archive m.makes.files_are))
      (λ known whole records sound text told given are is m. (
        s.stopped.written,
        subst (λ (t : List ℕ). WritesFirst (out_of out).draft.old (out_of out).draft.new t s.stopped.written)
            (sym (m.text_is ∙ ap written m.makes.content_is))
            (first_of_goods s.stopped s.merges known.0 whole records given are m.makes.before
            (one_given sound (content_of (set.from_list records)) m.makes.before (good_content whole records are)
            m.makes.is_content is m.makes.archive)
            m.makes.contents m.makes.are_contents m.makes.files_are),
      ))

  -- and of whatever bytes, of their good records
  pub first_of_good_records : (fault : CommandFault) (text other : List ℕ) (records others : List (List ℕ))
      → IsStopped (merge_of_one input file (draft_of out)) (out_of out) report fault → IsGiven input text → IsGiven file other
      → AreGoodRecords text records → AreGoodRecords other others
      → (n : ℕ) × WritesFirst (out_of out).draft.old (out_of out).draft.new (written (of_both records others)) n
  first_of_good_records fault text other records others stopped given other_given good other_good =
      let s = stopped.stops in
      let of_texts : (lefts rights : List (List ℕ)) → AreGoodRecords text lefts → AreGoodRecords other rights
      → WritesFirst (out_of out).draft.old (out_of out).draft.new (written (of_both lefts rights)) s.stopped.written =
      rw (given, other_given) at s.merges.1 in
      (s.stopped.written, of_texts records others good other_good)
