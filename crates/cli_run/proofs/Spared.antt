-- No command tells of an input that it could not be opened: that is told of the device's fault that it comes as.
use Rattle.std.proofs.Common.{ℕ, Bool, true, false, List, [], ◌∷◌, length, if◌then◌else◌, Option, Ok, Err, inl, inr}
use Rattle.std.specs.Prelude.{◌⊎◌, nat_lt}
use Rattle.archive_core.specs.declared.keys.{Digest.Digest, SliceKey.SliceKey}
use Rattle.archive_records.specs.declared.fault.MergeCause.{MergeCause}
use Rattle.archive_records.specs.declared.fault.MergeCause.TheVariants.{Left, Right, Write}
use Rattle.archive_records.specs.declared.kind.TextKind.{TextKind}
use Rattle.command_queries.specs.Frames.{AskedOfFrames, frames_held, prints_frames}
use Rattle.archive_exchange.specs.Rehearse.{rehearse}
use Rattle.command_queries.specs.Name.{name}
use Rattle.command_archives.specs.{Admit.admit_as_it_comes, Apply.apply_as_it_comes, Delta.delta_as_it_comes}
use Rattle.command_archives.specs.{MergeStreams.IsSide, MergeStreams.merge_as_it_comes, Migrate.migrate_as_it_comes}
use Rattle.command_archives.specs.Retire.{retire_as_it_comes}
use Rattle.command_common.specs.Archives.{AreRefused, further_name}
use Rattle.command_common.specs.Ends.{EndsStreamed, Query}
use Rattle.command_common.specs.Inputs.{IsAccepted, IsArchive, IsArchiveRefused, IsFileRefused, IsFirstRefused, IsFrames}
use Rattle.command_common.specs.Inputs.{IsRefusedInTurn, IsRefusedOps, IsRefusedSummary, IsTextRefused, Reader}
use Rattle.command_common.specs.Outputs.{Outs, Writer, draft_of, out_of}
use Rattle.command_common.specs.declared.faults.{InputName.InputName, Why.Why}
use Rattle.command_common.specs.declared.faults.CommandFault.TheVariants.{Input}
use Rattle.command_common.specs.declared.faults.InputName.TheVariants.{File}
use Rattle.command_common.specs.declared.faults.Why.TheVariants.{CannotOpen}
use Rattle.cli_arguments.specs.{Inputs.Inputs, declared.plan.Plan.Plan}
use Rattle.cli_arguments.specs.declared.plan.Plan.TheVariants as plan
use Rattle.index_format.specs.declared.fault.IndexingFault.{IndexingFault}
use Rattle.index_format.specs.declared.fault.IndexingFault.TheVariants.{Archive as OfArchive, OldArchive, TooLong}
use Rattle.index_build.specs.Index.{TellsRefusal, TellsStop, index as index_of}
use Rattle.index_build.specs.declared.fault.MakingFault.{MakingFault}
use Rattle.index_build.specs.declared.fault.MakingFault.TheVariants.{Archive as Refused, Write as Wrote}
use Rattle.command_given_indexes.specs.{Indexes.IsOfOtherLength, Indexes.IsRefusedByIndex, Indexes.IsRefusedByPart}
use Rattle.command_given_indexes.specs.{Several.AreRefusedLater, Several.AreRefusedTogether}
use Rattle.command_given_indexes.specs.Together.{IsFirstRefusedByIndex, IsRefusedAtPlaces}
use Rattle.text_input_files.specs.declared.frame.Frame.{Frame}
use Rattle.command_frames.specs.Asking.{AreRefusedAsking, AreUnread, AreUntold, IsTableRefused}
use Rattle.command_frames.specs.Frames.{frames_at, frames_by_indexes, symbolicate_at}
use Rattle.command_given_indexes.specs.Find.{find_by}
use Rattle.command_extract.specs.{Entries.IsRefusedSlice, Extract.Extraction, Extract.Extracts, Indexed.AreRefusedBefore, Indexed.extract_at}
use Rattle.byte_lazy_inputs.specs.declared.openings.Opening.{Opening}
use Rattle.command_archives.specs.PassedOver.{admit_passing_as_it_comes}
use Rattle.cli_run.specs.Plans.{Deed, EndsDeed, Executes, answers, listed_of, none, of_first, passes, streams}
use Rattle.cli_run.specs.Plans.{summarized_of, summary_of}
use Rattle.cli_run.specs.Queries.{extract_of, extraction_if_paired, find_of, frames_of, if_paired, list_of, no_archive}
use Rattle.cli_run.specs.Queries.{no_index, index_for_each_archive, symbolicate_of}

-- it is no reason that refuses an input
abbrev pub Spares : (InputName → Why → Type 0) → Type 0
Spares Refuses = (at : InputName) → Refuses at CannotOpen → ⊥

text : {S : Type 0} (kind : TextKind) (input : Reader S) → IsTextRefused kind input CannotOpen → ⊥
text kind input r = cc r.1

file : {S : Type 0} (input : Reader S) → IsFileRefused input CannotOpen → ⊥
file input (inl r) = cc r.0
file input (inr r) = cc r.1

operations : {S : Type 0} (input : Reader S) → Spares (IsRefusedOps input)
operations input at r = text _ input r.1

entries : {S : Type 0} (input : Reader S) → Spares (IsRefusedSummary input)
entries input at r = text _ input r.1

in_turn : {S : Type 0} (input : Reader S) (Behind : InputName → Why → Type 0) → Spares Behind
    → Spares (IsRefusedInTurn input Behind)
in_turn input Behind spares at (inl r) = text _ input r.1
in_turn input Behind spares at (inr r) = spares at r.2

first_file : {S : Type 0} (inputs : List (Reader S)) → Spares (IsFirstRefused File IsAccepted IsFileRefused inputs)
first_file inputs at r = file r.input r.refused

first_archive : {S : Type 0} (inputs : List (Reader S))
    → Spares (IsFirstRefused further_name IsArchive IsArchiveRefused inputs)
first_archive inputs at r = text _ r.input r.refused

together : {R S : Type 0} (archive : Reader R) (others : List (Reader S)) → Spares (AreRefused archive others)
together archive others at (inl r) = text _ archive r.0.1
together archive others at (inr r) = text _ r.2.input r.2.refused

framed : {Q : Type 0} (crash : Reader Q) (asked : AskedOfFrames)
    → ((says : IsFrames crash) → Spares (asked.Refuses says.0)) → Spares (prints_frames crash asked).Refuses
framed crash asked spares at (inl r) = r.0.1
framed crash asked spares at (inr r) = spares r.0 at r.2

side : (cause : MergeCause) (at : InputName) → IsSide cause at CannotOpen → ⊥
side (Left fault) at r = cc r.1
side (Right fault) at r = cc r.1
side Write at r = r

indexing : (fault : IndexingFault) (at : InputName) → TellsRefusal fault (Input at CannotOpen) → ⊥
indexing (OfArchive fault) at r = cc r.1
indexing OldArchive at r = cc r.1
indexing TooLong at r = cc r.1

making : (fault : MakingFault) (at : InputName) → TellsStop fault (Input at CannotOpen) → ⊥
making (Refused fault) at r = indexing fault at r
making (Wrote fault) at r = cc

other_length : {S : Type 0} (number : ℕ) (archive : Reader S) (size : ℕ) → Spares (IsOfOtherLength number archive size)
other_length number archive size at (inl unread) = unread.1
other_length number archive size at (inr stale) = cc stale.2

by_index : {R S : Type 0} (number : ℕ) (index : Reader R) (archive : Reader S)
    → Spares (IsRefusedByIndex number index archive)
by_index number index archive at (inl r) = cc r.1.1
by_index number index archive at (inr r) = other_length number archive _ at r.3

by_part : {R S : Type 0} (uuids : List (List ℕ)) (number : ℕ) (index : Reader R) (archive : Reader S)
    → Spares (IsRefusedByPart uuids number index archive)
by_part uuids number index archive at (inl r) = cc r.1.1
by_part uuids number index archive at (inr r) = other_length number archive r.1 at r.4

by_indexes : {I P : Type 0} (uuids : List (List ℕ)) (indexes : List (Reader I)) (archives : List (Reader P))
    → Spares (IsFirstRefusedByIndex uuids indexes archives)
by_indexes uuids indexes archives at r = by_part uuids r.number r.index r.archive at r.refused

later : {I P : Type 0} (uuids prefixes : List (List ℕ)) (indexes : List (Reader I)) (archives : List (Reader P))
    → Spares (AreRefusedLater uuids prefixes indexes archives)
later uuids prefixes indexes archives at r = go r.refused.refused
  where
    go : IsRefusedAtPlaces prefixes r.refused.number r.refused.archive r.refused.entries r.refused.size at CannotOpen → ⊥
    go (inl unread) = unread.1
    go (inr stale) = cc stale.2.1

of_several : {I P : Type 0} (uuids prefixes : List (List ℕ)) (indexes : List (Reader I)) (archives : List (Reader P))
    → Spares (AreRefusedTogether uuids prefixes indexes archives)
of_several uuids prefixes indexes archives at (inl r) = by_indexes uuids indexes archives at r
of_several uuids prefixes indexes archives at (inr r) = later uuids prefixes indexes archives at r

found_by : {I P : Type 0} (indexes : List (Reader I)) (archives : List (Reader P)) (uuid : List ℕ)
    → Spares (find_by indexes archives uuid).Refuses
found_by (index ∷ []) (archive ∷ []) uuid at r = by_part _ 0 index archive at r
found_by indexes archives uuid at r = of_several _ _ indexes archives at r

asking : {I P : Type 0} (lines slices : Bool) (frames : List Frame) (indexes : List (Reader I))
    (archives : List (Reader P)) → Spares (AreRefusedAsking lines slices frames indexes archives)
asking lines slices frames indexes archives at r = why r.1 r.3
  where
    why : (uuids : List (List ℕ)) → IsFirstRefusedByIndex uuids indexes archives at CannotOpen
        ⊎ AreUnread lines slices uuids frames indexes archives at CannotOpen
        ⊎ AreUntold lines slices uuids frames indexes archives at CannotOpen → ⊥
    why uuids (inl first) = by_indexes uuids indexes archives at first
    why uuids (inr (inl unread)) = later uuids (unread.key ∷ []) indexes archives at unread.refused
    why uuids (inr (inr untold)) = go slices untold.untold.untold
      where
        go : (wanted : Bool) → IsTableRefused lines wanted indexes untold.untold.places untold.untold.answering at CannotOpen → ⊥
        go false (inl changed) = cc changed.why_is
        go false (inr (inl lineless)) = cc lineless.why_is
        go false (inr (inr unread)) = cc unread.why_is
        go true unread = cc unread.why_is

-- a command that writes a slice, where that of its writing is
extracted : {D T : Type 0} (command : Extraction) (out : Outs D T) (report : Writer) (at : InputName)
    → (command.writes.Stops (Input at CannotOpen) → ⊥) → Extracts command out report (Err (Input at CannotOpen)) → ⊥
extracted command out report at spares (inl stopped) = spares stopped.stops
extracted command out report at spares (inr lacks) = lacks.reported

-- ---- over archives and indexes that are handed on

when_paired : (archives indexes : ℕ) (query : Query) → Spares query.Refuses
    → Spares (if_paired (index_for_each_archive archives indexes) query).Refuses
when_paired archives indexes query spares = go (nat_lt archives indexes) (nat_lt indexes archives)
  where
    go : (b c : Bool) → Spares (if_paired (if b then Err (no_archive archives)
        else if c then Err (no_index indexes) else Ok tt) query).Refuses
    go true c at r = cc r
    go false true at r = cc r
    go false false at r = spares at r

find : {S : Type 0} (archives places indexes : List (Reader S)) (uuid : List ℕ)
    → Spares (find_of archives places indexes uuid).Refuses
find (archive ∷ others) places [] uuid at r = together archive others at r
find archives places indexes uuid at r =
    when_paired (length archives) (length indexes) (find_by indexes places uuid) (found_by indexes places uuid) at r

list : {S : Type 0} (archive place : Reader S) (indexes : List (Reader S))
    → Spares (list_of archive place indexes).Refuses
list archive place [] at r = text _ archive r.1
list archive place (index ∷ _) at r = by_index 0 index place at r

symbolicate : {S : Type 0} (archives places indexes : List (Reader S)) (key : SliceKey) (load : Option ℕ)
    (lines slices : Bool) (addresses : List ℕ)
    → Spares (symbolicate_of archives places indexes key load lines slices addresses).Refuses
symbolicate (archive ∷ others) places [] key load lines slices addresses at r = together archive others at r
symbolicate archives places indexes key load lines slices addresses at r =
    when_paired (length archives) (length indexes) (symbolicate_at indexes places key load lines slices addresses)
    (asking lines slices _ indexes places) at r

frames : {S : Type 0} (lines slices : Bool) (crash : Reader S) (archives places indexes : List (Reader S))
    → Spares (frames_of lines slices crash archives places indexes).Refuses
frames lines slices crash (archive ∷ others) places [] at r =
    framed crash (frames_held lines slices archive others) (λ says. together archive others) at r
frames lines slices crash archives places indexes at r =
    when_paired (length archives) (length indexes) (frames_at lines slices crash indexes places)
    (framed crash (frames_by_indexes lines slices indexes places)
    (λ says. asking lines slices says.0 indexes places)) at r

stops_at : {S : Type 0} (indexes places : List (Reader S)) (key : SliceKey) (digest : Option Digest) (draft : Writer)
    (at : InputName) → (extract_at indexes places key digest draft).writes.Stops (Input at CannotOpen) → ⊥
stops_at indexes places key digest draft at (inl r) = before r.0
  where
    before : AreRefusedBefore indexes places key at CannotOpen → ⊥
    before (inl by) = by_indexes (key.uuid ∷ []) indexes places at by
    before (inr tied) = later (key.uuid ∷ []) _ indexes places at tied.0
stops_at indexes places key digest draft at (inr r) = sent r.stops.hinders.0
  where
    sent : IsRefusedSlice r.archive r.x at CannotOpen → ⊥
    sent (inl unread) = unread.1
    sent (inr stale) = cc stale.1

extract : {S : Type 0} (archives places indexes : List (Reader S)) (key : SliceKey) (digest : Option Digest)
    (draft : Writer) (at : InputName)
    → (extract_of archives places indexes key digest draft).writes.Stops (Input at CannotOpen) → ⊥
extract (archive ∷ others) places [] key digest draft at r = together archive others at r.0
extract archives places indexes key digest draft at r =
    go (nat_lt archives_long indexes_long) (nat_lt indexes_long archives_long) r
  where
    archives_long : ℕ
    archives_long = length archives

    indexes_long : ℕ
    indexes_long = length indexes

    go : (b c : Bool) → (extraction_if_paired (if b then Err (no_archive archives_long)
        else if c then Err (no_index indexes_long) else Ok tt) draft
        (extract_at indexes places key digest draft)).writes.Stops (Input at CannotOpen) → ⊥
    go true c r = cc r.0
    go false true r = cc r.0
    go false false r = stops_at indexes places key digest draft at r

-- ---- every plan

-- what is said of the first input
at_first : {S D T : Type 0} (inputs : List (Reader S)) (deed : Reader S → List (Reader S) → Deed) (out : Outs D T)
    (report : Writer) (at : InputName)
    → ((x : Reader S) (xs : List (Reader S)) → EndsDeed (deed x xs) out report (Err (Input at CannotOpen)) → ⊥)
    → EndsDeed (of_first none deed inputs) out report (Err (Input at CannotOpen)) → ⊥
at_first [] deed out report at spares e = e
at_first (x ∷ xs) deed out report at spares e = spares x xs e

merging : {S D T : Type 0} (input : Reader S) (others : List (Reader S)) (out : Outs D T) (report : Writer)
    (at : InputName) → EndsStreamed (merge_as_it_comes input others out) (out_of out) report (Err (Input at CannotOpen))
    → ⊥
merging {S = S} input [] out report at e =
    in_turn input (IsFirstRefused {S = S} further_name IsArchive IsArchiveRefused []) (first_archive []) at e.stops.0.0
merging input (other ∷ []) out report at e = side e.stops.stopped.cause at e.stops.told
merging input (other ∷ next ∷ more) out report at e =
    in_turn input (IsFirstRefused further_name IsArchive IsArchiveRefused (other ∷ next ∷ more))
    (first_archive (other ∷ next ∷ more)) at e.stops.0.0

summing : {S D T : Type 0} (archive place : Reader S) (indexes : List (Reader S)) (out : Outs D T) (report : Writer)
    (at : InputName) → EndsDeed (summary_of archive place indexes) out report (Err (Input at CannotOpen)) → ⊥
summing archive place [] out report at e = text _ archive e.0.1
summing archive place (index ∷ _) out report at e = by_index 0 index place at e.0

listing : {S D T : Type 0} (archives places indexes : List (Reader S)) (out : Outs D T) (report : Writer)
    (at : InputName) → EndsDeed (listed_of archives places indexes) out report (Err (Input at CannotOpen)) → ⊥
listing [] places indexes out report at e = e
listing (archive ∷ _) [] indexes out report at e = e
listing (archive ∷ _) (place ∷ _) indexes out report at e = list archive place indexes at e.0.0

summarizing : {S D T : Type 0} (archives places indexes : List (Reader S)) (out : Outs D T) (report : Writer)
    (at : InputName) → EndsDeed (summarized_of archives places indexes) out report (Err (Input at CannotOpen)) → ⊥
summarizing [] places indexes out report at e = e
summarizing (archive ∷ _) [] indexes out report at e = e
summarizing (archive ∷ _) (place ∷ _) indexes out report at e = summing archive place indexes out report at e

pub spared : {S D T : Type 0} (opening : S → Opening) (asked : Plan) (inputs places : Inputs (Reader S)) (out : Outs D T) (report : Writer)
    (at : InputName) → Executes opening asked inputs places out report (Err (Input at CannotOpen)) → ⊥
spared opening (plan.Admit false) inputs places out report at e =
    at_first inputs.archives (λ archive _. streams (admit_as_it_comes archive inputs.files (out_of out).draft)) out
    report at
    (λ archive _ e. in_turn archive (IsFirstRefused File IsAccepted IsFileRefused inputs.files)
    (first_file inputs.files) at e.stops.0.0) e
spared opening (plan.Admit true) inputs places out report at e =
    at_first inputs.archives
    (λ archive _. passes (admit_passing_as_it_comes opening archive inputs.files (out_of out).draft)) out report at
    (λ archive _ e. text _ archive e.stops.0.0.1) e
spared opening (plan.Retire key digest) inputs places out report at e =
    at_first inputs.archives (λ archive _. streams (retire_as_it_comes archive key digest (out_of out).draft)) out
    report at (λ archive _ e. text _ archive e.stops.0.0.1) e
spared opening plan.Merge inputs places out report at e =
    at_first inputs.archives (λ archive others. streams (merge_as_it_comes archive others out)) out report at
    (λ archive others e. merging archive others out report at e) e
spared opening plan.Migrate inputs places out report at e =
    at_first inputs.archives (λ archive _. streams (migrate_as_it_comes archive (out_of out).draft)) out report at
    (λ archive _ e. text _ archive e.stops.0.0.1) e
spared opening plan.Apply inputs places out report at e =
    at_first inputs.archives
    (λ archive _. of_first none (λ ops _. streams (apply_as_it_comes archive ops (out_of out).draft)) inputs.ops) out
    report at
    (λ archive _ e. at_first inputs.ops (λ ops _. streams (apply_as_it_comes archive ops (out_of out).draft)) out
    report at (λ ops _ e. in_turn archive (IsRefusedOps ops) (operations ops) at e.stops.0.0) e) e
spared opening (plan.Find uuid) inputs places out report at e =
    find inputs.archives places.archives places.indexes uuid at e.0.0
spared opening plan.List inputs places out report at e =
    listing inputs.archives places.archives places.indexes out report at e
spared opening (plan.Extract key digest) inputs places out report at e =
    extracted (extract_of inputs.archives places.archives places.indexes key digest (out_of out).draft) out report at
    (extract inputs.archives places.archives places.indexes key digest (out_of out).draft at) e
spared opening (plan.Name sought) inputs places out report at e =
    at_first inputs.archives (λ archive others. answers (name archive others sought.now)) out report at
    (λ archive others e. together archive others at e.0.0) e
spared opening (plan.Symbolicate key load lines slices addresses) inputs places out report at e =
    symbolicate inputs.archives places.archives places.indexes key load lines slices addresses.now at e.0.0
spared opening (plan.Frames lines slices) inputs places out report at e =
    at_first inputs.frames
    (λ crash _. answers (frames_of lines slices crash inputs.archives places.archives places.indexes)) out report at
    (λ crash _ e. frames lines slices crash inputs.archives places.archives places.indexes at e.0.0) e
spared opening plan.Summary inputs places out report at e =
    summarizing inputs.archives places.archives places.indexes out report at e
spared opening plan.Index inputs places out report at e =
    at_first inputs.archives (λ archive _. streams (index_of archive (draft_of out))) out report at
    (λ archive _ e. making e.stops.stopped at e.stops.tells) e
spared opening plan.Delta inputs places out report at e =
    at_first inputs.archives
    (λ archive _. of_first none (λ named _. streams (delta_as_it_comes archive named (out_of out).draft))
    inputs.summaries) out report at
    (λ archive _ e. at_first inputs.summaries
    (λ named _. streams (delta_as_it_comes archive named (out_of out).draft)) out report at
    (λ named _ e. in_turn archive (IsRefusedSummary named) (entries named) at e.stops.0.0) e) e
spared opening plan.Rehearse inputs places out report at e =
    at_first inputs.scripts (λ script _. answers (rehearse script)) out report at (λ script _ e. e.0.0.1) e
spared opening asked inputs places out report at e = e
