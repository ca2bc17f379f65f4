-- How `extract` ends, from what its parts did.
use Rattle.std.proofs.Common.{◌≡◌, ℕ, List, [], ◌∷◌, length, Option, Some, None, Result, Ok, Err, refl, sym, ap, subst, inl, inr, arith}
use Rattle.std.proofs.KnownBytes.{Appends-nil}
use Rattle.std.specs.Io.KnownBytes.{Appends}
use Rattle.archive_core.specs.Content.{Operations}
use Rattle.archive_core.specs.Key.{key_bytes}
use Rattle.archive_core.specs.Part.{AreAlikeUnder}
use Rattle.archive_core.specs.Valid.{key_of}
use Rattle.archive_core.specs.declared.find.FindRow.{FindRow}
use Rattle.archive_core.specs.declared.keys.Digest.{Digest}
use Rattle.archive_core.specs.declared.keys.SliceKey.{SliceKey}
use Rattle.archive_core.proofs.Picked.{alike_back}
use Rattle.text_reports.specs.Finds.{find_lines}
use Rattle.command_common.proofs.Alike.{answers_alike}
use Rattle.command_common.proofs.Parts.{refusal_of}
use Rattle.command_common.specs.Ends.{IsStopped}
use Rattle.command_common.specs.Inputs.{IsRefusal}
use Rattle.command_common.specs.Outputs.{Outs, Publishes, PublishesNothing, Takes, Writer, out_of}
use Rattle.command_common.specs.declared.faults.CommandFault.{CommandFault}
use Rattle.command_common.specs.declared.faults.CommandFault.TheVariants.{Input, Output, Report, OutOfMemory}
use Rattle.byte_device.specs.declared.targets.Output.{Output as Out_value}
use Rattle.command_common.specs.declared.faults.Status.{Status}
use Rattle.command_extract.proofs.Held.{live_alike}
use Rattle.command_extract.specs.Evidence.{LacksSlices, Sends, StopsBefore}
use Rattle.command_extract.specs.Extract.{Extraction, Extracts, Held, MakesNone, MakesSlice}
use Rattle.command_extract.specs.InnerSteps.{ChoosesIn, ChoosesNone, ReportsRows, SendsBytes}
use Rattle.command_extract.specs.Kept.{KeepsWanted}
use Rattle.command_extract.specs.Wanted.{AreUndecided, IsWanted, line_of, slice_line}

-- ---- what is wanted of one content is wanted of another that is alike there

module _ (o p : Operations) (key : SliceKey) (same : AreAlikeUnder (key_bytes key) o p) where
  pub wanted_alike : (digest : Option Digest) (slice : List ℕ) → IsWanted o key digest slice → IsWanted p key digest slice
  wanted_alike None slice is = answers_alike o p key same (slice ∷ []) is
  wanted_alike (Some digest) slice is = (live_alike o p key same slice is.0, is.1)

  pub undecided_alike : (digest : Option Digest) (slices : List (List ℕ)) → AreUndecided o key digest slices
      → AreUndecided p key digest slices
  undecided_alike None slices are = (answers_alike o p key same slices are.0, are.1)
  undecided_alike (Some digest) slices are =
      (are.0, λ slice live. are.1 slice (live_alike p o key (alike_back (key_bytes key) o p same) slice live))

-- it is under the key
pub under_key : (o : Operations) (key : SliceKey) (digest : Option Digest) (slice : List ℕ) → IsWanted o key digest slice → key_of slice ≡ key
under_key o key None slice is = ((is.exactly slice).0 (0, omega arith, refl)).live.under
under_key o key (Some digest) slice is = is.0.under

-- ---- what is chosen in a content that is kept

module _ (command : Writer → Extraction) (Holds : Held) (key : SliceKey) (digest : Option Digest) (kept : Operations)
    (unfailed : (draft : Writer) → (command draft).writes.Unfailed)
    (held : (IsTrue : Operations → Type 0) → ((o : Operations) → AreAlikeUnder (key_bytes key) kept o → IsTrue o) → Holds IsTrue) where
  pub keeps_wanted : (number : ℕ) (given : Digest) (size : ℕ)
      → ((draft : Writer) (slice told : List ℕ) → MakesSlice Holds key digest slice told → (command draft).writes.Makes slice told)
      → ChoosesIn kept key digest number given size → KeepsWanted command key kept number given size
  keeps_wanted number given size makes (slice, wanted, chosen) =
      let under : key ≡ key_of slice = sym (under_key kept key digest slice wanted) in
      let told : line_of key given size ≡ slice_line slice =
      λ i. line_of (under i) (record { 0 = chosen.digest_is i }) (chosen.size_is i) in
      record {
        slice = slice;
        chosen = chosen;
        makes = λ draft. makes draft slice (line_of key given size)
            (held (λ o. IsWanted o key digest slice) (λ o alike. wanted_alike kept o key alike digest slice wanted), told);
        unfailed = unfailed;
      }

  pub keeps_none : (rows : List FindRow)
      → ((draft : Writer) (told : List ℕ) → MakesNone Holds key digest told → (command draft).Lacks told)
      → ChoosesNone kept key digest rows → LacksSlices command rows
  keeps_none rows lacks (slices, are, rows_are) = λ draft. (
    unfailed draft,
    lacks draft (find_lines rows) (
      slices,
      held (λ o. AreUndecided o key digest slices) (λ o alike. undecided_alike kept o key alike digest slices are),
      ap find_lines rows_are,
    ),
  )

-- it is sent
pub kept_so : (command : Writer → Extraction) (key : SliceKey) (o : Operations) (number : ℕ) (given : Digest) (size : ℕ) (draft : Writer)
    (result : Result (Unit {0}) CommandFault) (k : KeepsWanted command key o number given size) → SendsBytes k.slice draft result
    → Sends command (line_of key given size) size draft result
kept_so command key o number given size draft (Ok _) k took =
    record { slice = k.slice; makes = k.makes; unfailed = k.unfailed; long = sym k.chosen.size_is; took = took }
kept_so command key o number given size draft (Err fault) k (n, is, failed) =
    inr (record { slice = k.slice; makes = k.makes; unfailed = k.unfailed; n = n; fault_is = is; failed = failed })

-- ---- OUT

-- nothing is written where OUT is as it was
pub took_nothing : {D T : Type 0} (out : Outs D T) → out.new ≡ out.old → Takes (out_of out).draft []
took_nothing out same = (
  subst (λ (o : Out_value _ _). Appends (out.held out.old.draft) (out.held o.draft) []) (sym same) (Appends-nil (out.held out.old.draft)),
  ap (λ (o : Out_value _ _). out.draft_failures o.draft) same,
)

module _ {D T : Type 0} (command : Extraction) (out : Outs D T) (report : Writer) where
  -- a text is published
  pub published_so : (result : Result Status CommandFault) (text told : List ℕ) → command.writes.Unfailed
      → command.writes.Makes text told → Publishes (out_of out) report text told result → Extracts command out report result
  published_so (Err (Input place why)) text told u makes p = absurd p
  published_so (Err (Output n)) text told u makes p = inl (inr (u, record { text = text; told = told; makes = makes; published = p }))
  published_so (Err OutOfMemory) text told u makes p = inl (inr (u, record { text = text; told = told; makes = makes; published = p }))
  published_so result text told u makes p = inl (u, record { text = text; told = told; makes = makes; published = p })

  -- the command is stopped
  stopped : (fault : CommandFault) (bytes : List ℕ) → command.writes.Stops fault → Appends (out_of out).draft.old (out_of out).draft.new bytes
      → ((n : ℕ) → fault ≡ Output n → n ≡ length bytes)
      → PublishesNothing (out_of out) → Takes report [] → IsStopped command.writes (out_of out) report fault
  stopped fault bytes stops took count nothing unreported = record {
    stops = stops;
    bytes = bytes;
    took = took;
    count = count;
    nothing_published = nothing;
    unreported = unreported;
  }

  -- before OUT was begun
  stopped_before : (fault : CommandFault)
      → IsRefusal (λ at why. command.writes.Stops (Input at why)) (command.writes.Stops OutOfMemory) fault
      → out.new ≡ out.old → Takes report [] → Extracts command out report (Err fault)
  stopped_before (Input at why) stops same unreported =
      inl (stopped (Input at why) [] stops (took_nothing out same).0 (λ n h. absurd (cc h)) (
        ap (λ (o : Out_value D T). out.published o.target) same,
        ap (λ (o : Out_value D T). out.failures o.target) same,
      ) unreported)
  stopped_before OutOfMemory stops same unreported =
      inl (inl (stopped OutOfMemory [] stops (took_nothing out same).0 (λ n h. absurd (cc h)) (
        ap (λ (o : Out_value D T). out.published o.target) same,
        ap (λ (o : Out_value D T). out.failures o.target) same,
      ) unreported))
  stopped_before fault stops same unreported = absurd stops

  -- while its draft took bytes
  stopped_amidst : (fault : CommandFault) (bytes : List ℕ) → command.writes.Stops fault
      → Appends (out_of out).draft.old (out_of out).draft.new bytes → ((n : ℕ) → fault ≡ Output n → n ≡ length bytes)
      → ((n : ℕ) → fault ≡ Report n → ⊥) → PublishesNothing (out_of out) → Takes report []
      → Extracts command out report (Err fault)
  stopped_amidst (Input at why) bytes stops took count not_told nothing unreported =
      inl (stopped (Input at why) bytes stops took count nothing unreported)
  stopped_amidst (Output n) bytes stops took count not_told nothing unreported =
      inl (inl (stopped (Output n) bytes stops took count nothing unreported))
  stopped_amidst (Report n) bytes stops took count not_told nothing unreported = absurd (not_told n refl)
  stopped_amidst OutOfMemory bytes stops took count not_told nothing unreported =
      inl (inl (stopped OutOfMemory bytes stops took count nothing unreported))

-- ---- the steps of the command

module _ {D T : Type 0} (command : Writer → Extraction) (out : Outs D T) (report : Writer) where
  abbrev now : Extraction
  now = command (out_of out).draft

  -- an input is refused, or memory is wanting, before OUT was begun
  pub refused_so : (fault : CommandFault)
      → IsRefusal (λ at why. StopsBefore command (Input at why)) (StopsBefore command OutOfMemory) fault
      → out.new ≡ out.old → Takes report [] → Extracts now out report (Err fault)
  refused_so fault r same unreported =
      stopped_before now out report fault (refusal_of (λ at why. StopsBefore command (Input at why)) (λ at why. now.writes.Stops (Input at why))
      (StopsBefore command OutOfMemory) (now.writes.Stops OutOfMemory) fault
      (λ at why s. s (out_of out).draft (took_nothing out same)) (λ s. s (out_of out).draft (took_nothing out same)) r) same unreported

  -- no slice is wanted
  pub lacking_so : (rows : List FindRow) (result : Result Status CommandFault) → LacksSlices command rows → StopsBefore command OutOfMemory
      → out.new ≡ out.old → ReportsRows rows report result → Extracts now out report result
  lacking_so rows result lacks stops same (inl reported) =
      let told = lacks (out_of out).draft in
      inr (record { unfailed = told.0; text = find_lines rows; lacks = told.1; kept = same; reported = reported })
  lacking_so rows result lacks stops same (inr none) = rw none.0 (refused_so OutOfMemory stops same none.1)

  -- a slice was not sent
  pub unsent_so : (told : List ℕ) (size : ℕ) (fault : CommandFault) → Sends command told size (out_of out).draft (Err fault)
      → PublishesNothing (out_of out) → Takes report [] → Extracts now out report (Err fault)
  unsent_so told size fault (inl s) nothing unreported =
      stopped_amidst now out report fault s.taken.0 s.stops s.taken.1 s.taken.2 s.not_told nothing unreported
  unsent_so told size fault (inr first) nothing unreported =
      rw first.fault_is (published_so now out report (Err (Output first.n)) first.slice told (first.unfailed (out_of out).draft)
      (first.makes (out_of out).draft) (inl (first.failed, nothing), unreported))
