-- A line that is carried out over files of the system.
use Rattle.std.specs.Prelude.{◌≡◌, ◌≢◌, ◌⊎◌, ℕ, List, OnOk, [], ◌++◌, length, Option, Some, None, Result, Ok, Err}
use Rattle.std.specs.Io.KnownBytes.{Appends}
use Rattle.std.specs.declared.io.traits.{Read.Ghosts as Reads, Seek.Ghosts as Seeks, Write.Ghosts as Writes}
use Rattle.clap.specs.Words.{Text}
use Rattle.cli_arguments.specs.{Inputs.Inputs, Lines.Line, Lines.inputs_of, Lines.out_of}
use Rattle.byte_device.specs.declared.targets.Output.{Output as Out}
use Rattle.command_common.specs.declared.failures.Failure.{Failure}
use Rattle.command_common.specs.declared.failures.Failure.TheVariants.{Command, CannotCreate, CannotReplace}
use Rattle.command_common.specs.declared.faults.{CommandFault.CommandFault, Status.Status}
use Rattle.command_common.specs.declared.faults.CommandFault.TheVariants.{Input, Output, Report, OutOfMemory}
use Rattle.command_common.specs.Outputs.{IsKept, IsPublished as IsOutPublished, Outs, Writer, out_of as known_of, outs}
use Rattle.cli_files.specs.{FileCalls.FileCall, FileCalls.bytes_in, InputStates.AreFirstAsked, InputStates.Told}
use Rattle.cli_files.specs.OutFiles.{fault_of, publishing_calls, stage_of}
use Rattle.cli_files.specs.Publishing.{IsPath, IsPublished, IsRemoved, account}
use Rattle.cli_files.specs.declared.replaceable.{OutFault.OutFault, ReplaceRule.ReplaceRule}
use Rattle.cli_files.specs.declared.system_files.SystemFiles.{SystemFiles}
use Rattle.cli_files.specs.declared.replaceable.OutFault.TheVariants as fault
use Rattle.command_common.specs.declared.notes.Note.{Note}
use Rattle.cli_arguments.specs.declared.plan.Plan.{Plan}
use Rattle.cli_run.specs.{Disks.Carried, Plans.replaces_of}

-- why OUT failed after it accepted this number of bytes
abbrev pub out_failure : Option OutFault → ℕ → Failure
out_failure None n = Command (Output n)
out_failure (Some (fault.NotCreated _)) n = CannotCreate (record {})
out_failure (Some (fault.NotReplaced _)) n = CannotReplace
out_failure (Some fault.OutOfMemory) n = Command OutOfMemory

-- the reported result of a command with this result and this fault of OUT
abbrev pub command_fault_of : Option OutFault → Result Status CommandFault → Result Status Failure
command_fault_of fault (Ok status) = Ok status
command_fault_of fault (Err (Input name why)) = Err (Command (Input name why))
command_fault_of fault (Err (Output n)) = Err (out_failure fault n)
command_fault_of fault (Err (Report n)) = Err (Command (Report n))
command_fault_of fault (Err OutOfMemory) = Err (Command OutOfMemory)

-- Nothing was published. OUT's draft accepted these bytes; if OUT failed, their number is reported.
pub record IsNotPut {D T : Type 0} (out : Outs D T) (ended : Result Status CommandFault) : Type 0 where
  pub bytes : List ℕ
  pub took : Appends (out.held out.old.draft) (out.held out.new.draft) bytes
  pub kept : out.published out.new.target ≡ out.published out.old.target
  pub count : (n : ℕ) → ended ≡ Err (Output n) → n ≡ length bytes

-- A text was published, or OUT is unchanged, since the command has none.
abbrev pub IsPut : {D T : Type 0} → Outs D T → Type 0
IsPut out = ((text : List ℕ) × IsOutPublished (known_of out) text) ⊎ (out.new ≡ out.old)

-- A text is published if the command succeeded, or failed only to report that; otherwise nothing is.
abbrev pub IsOutcome : {D T : Type 0} → Outs D T → Result Status CommandFault → Type 0
IsOutcome out (Ok status) = IsPut out
IsOutcome out (Err (Input name why)) = IsNotPut out (Err (Input name why))
IsOutcome out (Err (Output n)) = IsNotPut out (Err (Output n))
IsOutcome out (Err (Report n)) = IsPut out
IsOutcome out (Err OutOfMemory) = IsNotPut out (Err OutOfMemory)

-- The noted calls to the system in a command: the paths for which inputs were made, before and after it; the replies of
-- the system about OUT's path and about theirs; the calls for OUT; and why it was not created or not published, if it
-- was not. The first fields are the ghost functions of an input, with the paths that were opened for it; then the known
-- facts about OUT's draft and the number of its failures, and about the published text.
pub record Calls (S D T : Type 0) : Type 0 where
  pub told : Told S
  pub held : D → Option (List ℕ)
  pub draft_failures : D → ℕ
  pub published : T → Option (List ℕ)
  pub target_failures : T → ℕ
  pub asked_old : List Text
  pub asked_new : List Text
  pub compared : List FileCall
  pub called : List FileCall
  pub fault : Option OutFault

-- the calls between these two states of the files
abbrev pub calls_of : {F T E S D P : Type 0} {reads : Reads T} {writes : Writes T} {seeks : Seeks T} {lists : Reads E}
    → Told S → (D → Option (List ℕ)) → (D → ℕ) → (P → Option (List ℕ)) → (P → ℕ)
    → SystemFiles F T E reads writes seeks lists
    → SystemFiles F T E reads writes seeks lists → Calls S D P
calls_of told held draft_failures published target_failures old new = record {
  told = told;
  held = held;
  draft_failures = draft_failures;
  published = published;
  target_failures = target_failures;
  asked_old = old.asked.entries;
  asked_new = new.asked.entries;
  compared = new.compared.entries;
  called = publishing_calls new.out.target.published ++ new.out.draft.calls.entries;
  fault = fault_of (stage_of new.out.draft.state);
}

-- OUT in the command, with these two states
abbrev pub outs_in : {S D T : Type 0} → Calls S D T → Out D T → Out D T → Outs D T
outs_in calls begun done = outs calls.held calls.draft_failures calls.published calls.target_failures begun done

-- The command of a line ended over files of which nothing is known, with this reported result; if it succeeded, these
-- are its notes. Inputs were made for its paths, once each and in the order of the command line, and for no other. OUT
-- has the path of the line, unless an input's file is there, and the plan's rule of replacement. If a text was
-- published, the calls for OUT are those that put it at that path; if not, those that leave nothing, with the bytes
-- that the draft accepted; and if the draft accepted none and did not fail, there are none.
pub record IsCarriedOut {S D T : Type 0} (calls : Calls S D T) (line : Line) (report : Writer)
    (told : Result Status Failure) (notes : List Note) : Type 0 where
  pub path : Option Text
  pub replaces : ReplaceRule
  pub begun : Out D T
  pub done : Out D T
  pub ended : Result Status CommandFault
  pub path_is : IsPath (out_of line) (inputs_of line) calls.compared path
  pub begun_is : calls.held begun.draft ≡ Some (account path replaces [])
  pub begun_unfailed : calls.draft_failures begun.draft ≡ 0
  pub nothing_published : calls.published begun.target ≡ None
  pub asked : calls.asked_new ≡ calls.asked_old ++ inputs_of line
  pub before : Inputs S
  pub behind : Inputs S
  pub noted : List Note
  pub plan : Plan
  pub carried : Carried calls.told line plan before behind (outs_in calls begun done) report ended [] noted
  pub replaces_is : out_of line ≢ None → replaces ≡ replaces_of plan
  pub notes_are : OnOk told (notes ≡ noted)
  pub outcome : IsOutcome (outs_in calls begun done) ended
  pub published : (text : List ℕ) → IsOutPublished (known_of (outs_in calls begun done)) text
      → (p : List ℕ) × (path ≡ Some p) × ∥ IsPublished p replaces text calls.called ∥₁
  pub removed : (not_put : IsNotPut (outs_in calls begun done) ended)
      → ∥ IsRemoved replaces path calls.called ∥₁ × (bytes_in calls.called ≡ not_put.bytes)
  pub untouched : IsKept (known_of (outs_in calls begun done)) → calls.called ≡ []
  pub told_is : told ≡ command_fault_of calls.fault ended

-- Memory ran out before the command began: no call was made for OUT, and nothing is reported.
pub record IsUnbegun {S D T : Type 0} (calls : Calls S D T) (line : Line) (report : Writer)
    (told : Result Status Failure) : Type 0 where
  pub wanting : told ≡ Err (Command OutOfMemory)
  pub asked : AreFirstAsked calls.asked_old calls.asked_new (inputs_of line)
  pub uncalled : calls.called ≡ []
  pub report_same : report.new ≡ report.old
  pub report_unfailed : report.failures_new ≡ report.failures_old

-- A line was carried out with this reported result, or memory ran out before that.
abbrev pub IsDone : {S D T : Type 0} → Calls S D T → Line → Writer → Result Status Failure → List Note → Type 0
IsDone calls line report told notes = IsUnbegun calls line report told ⊎ IsCarriedOut calls line report told notes
