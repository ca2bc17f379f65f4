-- The result of the command of a plan.
use Rattle.std.specs.Prelude.{◌≡◌, ℕ, Bool, true, false, not, List, [], ◌∷◌, Option, Result}
use Rattle.std.specs.FinSet as set
use Rattle.cli_arguments.specs.declared.plan.Plan.{Plan}
use Rattle.cli_arguments.specs.declared.plan.Plan.TheVariants as plan
use Rattle.archive_records.specs.Text.{written}
use Rattle.cli_arguments.specs.Inputs.{Inputs}
use Rattle.command_common.specs.{declared.faults.CommandFault.CommandFault, declared.faults.Status.Status}
use Rattle.command_common.specs.Inputs.{Reader, readers}
use Rattle.command_common.specs.Ends.{Command, Ends, EndsReport, EndsStreamed, Query, Streamed}
use Rattle.command_common.specs.Outputs.{Outs, Publishes, Writer, draft_of, out_of, report_of}
use Rattle.cli_files.specs.declared.replaceable.ReplaceRule.{ReplaceRule}
use Rattle.cli_files.specs.declared.replaceable.ReplaceRule.TheVariants.{ArchivesBelow, Summaries, Indexes, SameBytes}
use Rattle.command_archives.specs.{Admit.admit_as_it_comes, Apply.apply_as_it_comes, Delta.delta_as_it_comes}
use Rattle.command_archives.specs.{Summary.summary, Notes.NotesMissing, Retire.retire_as_it_comes}
use Rattle.command_archives.specs.PassedOver.{EndsPassing, NotesAdmit, Passing, admit_passing_as_it_comes}
use Rattle.byte_lazy_inputs.specs.declared.openings.Opening.{Opening}
use Rattle.command_archives.specs.{MergeStreams.merge_as_it_comes, Migrate.migrate_as_it_comes}
use Rattle.command_common.specs.declared.notes.Note.{Note}
use Rattle.command_given_indexes.specs.Summary.{summary_at}
use Rattle.cli_run.specs.Queries.{NotesUnderscored, extract_of, find_of, frames_of, list_of, symbolicate_of}
use Rattle.command_queries.specs.Name.{name}
use Rattle.archive_exchange.specs.Rehearse.{rehearse}
use Rattle.index_build.specs.Index.{index}
use Rattle.command_extract.specs.Extract.{Extraction, Extracts}

-- which files the OUT of a plan replaces: a summary or an index one of its own kind, a slice a file with the same
-- bytes, and an archive one below it
abbrev pub replaces_of : Plan → ReplaceRule
replaces_of plan.Summary = Summaries
replaces_of plan.Index = Indexes
replaces_of (plan.Extract _ _) = SameBytes
replaces_of _ = ArchivesBelow

-- the kind of a plan's command, over inputs: it writes the empty archive, it writes OUT, it writes OUT while it reads,
-- or so that it passes over refused inputs, it writes a slice, if there is one, or it reports; it is `none` if inputs
-- are missing
pub data Deed : Type 1 where
  empties : Deed
  changes : Command → Deed
  streams : Streamed → Deed
  passes : Passing → Deed
  extracts : Extraction → Deed
  answers : Query → Deed
  none : Deed

-- inputs by their kinds, each with its two states
abbrev pub readers_by : {S : Type 0} → (S → Option (List ℕ)) → (S → ℕ) → Inputs S → Inputs S → Inputs (Reader S)
readers_by left failures old new = record {
  archives = readers left failures old.archives new.archives;
  indexes = readers left failures old.indexes new.indexes;
  files = readers left failures old.files new.files;
  ops = readers left failures old.ops new.ops;
  summaries = readers left failures old.summaries new.summaries;
  scripts = readers left failures old.scripts new.scripts;
  frames = readers left failures old.frames new.frames;
}

-- the function of the first item and the others, or `otherwise` if there is no item
abbrev pub of_first : {X : Type 0} {A : Type 1} → A → (X → List X → A) → List X → A
of_first otherwise says [] = otherwise
of_first otherwise says (x ∷ xs) = says x xs

-- `name`, over an archive and the further ones
abbrev pub named_of : {S : Type 0} → List (Reader S) → List ℕ → Deed
named_of archives sought = of_first none (λ archive others. answers (name archive others sought)) archives

-- `list`, over the first archive, and its index, if there is one
abbrev pub listed_of : {S : Type 0} → List (Reader S) → List (Reader S) → List (Reader S) → Deed
listed_of (archive ∷ _) (place ∷ _) indexes = answers (list_of archive place indexes)
listed_of _ _ _ = none

-- a plan without OUT, over its inputs, as they are read from their start and at any offset: an archive and the further
-- ones are read as their join
abbrev pub asked_of : {S : Type 0} → Plan → Inputs (Reader S) → Inputs (Reader S) → Deed
asked_of (plan.Find uuid) inputs places =
    answers (find_of inputs.archives places.archives places.indexes uuid)
asked_of plan.List inputs places = listed_of inputs.archives places.archives places.indexes
asked_of (plan.Name sought) inputs places = named_of inputs.archives sought.now
asked_of (plan.Symbolicate key load lines slices addresses) inputs places =
    answers (symbolicate_of inputs.archives places.archives places.indexes key load lines slices addresses.now)
asked_of (plan.Frames lines slices) inputs places =
    of_first none (λ crash _. answers (frames_of lines slices crash inputs.archives places.archives places.indexes))
    inputs.frames
asked_of plan.Rehearse inputs places = of_first none (λ script _. answers (rehearse script)) inputs.scripts
asked_of _ _ _ = none

-- it writes no OUT
abbrev pub only_reports : Plan → Bool
only_reports (plan.Find _) = true
only_reports plan.List = true
only_reports (plan.Name _) = true
only_reports (plan.Symbolicate _ _ _ _ _) = true
only_reports (plan.Frames _ _) = true
only_reports plan.Rehearse = true
only_reports _ = false

-- it writes OUT while it reads one archive
abbrev pub writes_archive : Plan → Bool
writes_archive plan.New = false
writes_archive plan.Merge = false
writes_archive (plan.Extract _ _) = false
writes_archive plan.Summary = false
writes_archive asked = not (only_reports asked)

-- `summary`, over an archive, and its index, if there is one
abbrev pub summary_of : {S : Type 0} → Reader S → Reader S → List (Reader S) → Deed
summary_of archive place [] = changes (summary archive)
summary_of archive place (named ∷ _) = changes (summary_at named place)

-- the same over the first archive
abbrev pub summarized_of : {S : Type 0} → List (Reader S) → List (Reader S) → List (Reader S) → Deed
summarized_of (archive ∷ _) (place ∷ _) indexes = summary_of archive place indexes
summarized_of _ _ _ = none

-- `merge`, over an archive and the further ones
abbrev pub merged_of : {S D T : Type 0} → List (Reader S) → Outs D T → Deed
merged_of archives out = of_first none (λ archive others. streams (merge_as_it_comes archive others out)) archives

-- `admit`, over an archive and files, with or without `--keep-going`
abbrev pub admitted_of : {S : Type 0} → Bool → (S → Opening) → Reader S → List (Reader S) → Writer → Deed
admitted_of false opening archive files draft = streams (admit_as_it_comes archive files draft)
admitted_of true opening archive files draft = passes (admit_passing_as_it_comes opening archive files draft)

-- any plan, over the same inputs, each with the result of opening it
abbrev pub deed_of : {S D T : Type 0} → (S → Opening) → Plan → Inputs (Reader S) → Inputs (Reader S) → Outs D T → Deed
deed_of opening plan.New inputs places out = empties
deed_of opening (plan.Admit keep_going) inputs places out =
    of_first none (λ archive _. admitted_of keep_going opening archive inputs.files (out_of out).draft) inputs.archives
deed_of opening (plan.Retire key digest) inputs places out =
    of_first none (λ archive _. streams (retire_as_it_comes archive key digest (out_of out).draft)) inputs.archives
deed_of opening plan.Merge inputs places out = merged_of inputs.archives out
deed_of opening plan.Migrate inputs places out =
    of_first none (λ archive _. streams (migrate_as_it_comes archive (out_of out).draft)) inputs.archives
deed_of opening plan.Apply inputs places out =
    of_first none (λ archive _. of_first none (λ ops _. streams (apply_as_it_comes archive ops (out_of out).draft))
    inputs.ops) inputs.archives
deed_of opening (plan.Extract key digest) inputs places out =
    extracts (extract_of inputs.archives places.archives places.indexes key digest (out_of out).draft)
deed_of opening plan.Summary inputs places out = summarized_of inputs.archives places.archives places.indexes
deed_of opening plan.Index inputs places out =
    of_first none (λ archive _. streams (index archive (draft_of out))) inputs.archives
deed_of opening plan.Delta inputs places out =
    of_first none (λ archive _. of_first none (λ named _. streams (delta_as_it_comes archive named
    (out_of out).draft)) inputs.summaries) inputs.archives
deed_of opening asked inputs places out = asked_of asked inputs places

-- The result of a plan that only reports; there is none for any other.
abbrev pub EndsAsked : Deed → Writer → Result Status CommandFault → Type 0
EndsAsked (answers query) report result = EndsReport query report result
EndsAsked _ _ _ = ⊥

-- The result of a plan without OUT over its inputs.
abbrev pub Answers : {S : Type 0} → Plan → Inputs (Reader S) → Inputs (Reader S) → Writer
    → Result Status CommandFault → Type 0
Answers asked inputs places report result = EndsAsked (asked_of asked inputs places) report result

-- The result of a query; OUT is unchanged.
abbrev pub EndsQuery : {D T : Type 0} → Query → Outs D T → Writer → Result Status CommandFault → Type 0
EndsQuery query out report result = EndsReport query report result × (out.new ≡ out.old)

-- The result of the command.
abbrev pub EndsDeed : {D T : Type 0} → Deed → Outs D T → Writer → Result Status CommandFault → Type 0
EndsDeed empties out report result =
    Publishes (out_of out) report (written set.empty) (report_of set.empty []) result
EndsDeed (changes command) out report result = Ends command (out_of out) report result
EndsDeed (streams command) out report result = EndsStreamed command (out_of out) report result
EndsDeed (passes command) out report result = EndsPassing command (out_of out) report result
EndsDeed (extracts command) out report result = Extracts command out report result
EndsDeed (answers query) out report result = EndsQuery query out report result
EndsDeed none out report result = ⊥

-- The result of the command of a plan over its inputs, each with the result of opening it, as they are read from their
-- start and at any offset.
abbrev pub Executes : {S D T : Type 0} → (S → Opening) → Plan → Inputs (Reader S) → Inputs (Reader S) → Outs D T
    → Writer → Result Status CommandFault → Type 0
Executes opening asked inputs places out report result =
    EndsDeed (deed_of opening asked inputs places out) out report result

-- The notes of `name` for an archive and the further ones.
abbrev pub NotesNamed : {S : Type 0} → List (Reader S) → List ℕ → List Note → List Note → Type 0
NotesNamed archives sought old new =
    of_first (new ≡ old) (λ archive others. NotesUnderscored archive others sought old new) archives

-- The notes of a plan's command over these inputs, if it succeeded: only `admit`, `retire` and `name` add notes.
abbrev pub Notes : {S : Type 0} → (S → Opening) → Plan → Inputs (Reader S) → List Note → List Note → Type 0
Notes opening (plan.Admit keep_going) inputs old new =
    of_first (new ≡ old) (λ archive _. NotesAdmit keep_going opening archive inputs.files old new) inputs.archives
Notes opening (plan.Retire key digest) inputs old new =
    of_first (new ≡ old) (λ archive _. NotesMissing archive key digest old new) inputs.archives
Notes opening (plan.Name sought) inputs old new = NotesNamed inputs.archives sought.now old new
Notes opening _ inputs old new = new ≡ old
