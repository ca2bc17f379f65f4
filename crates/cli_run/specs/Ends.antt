-- The end of the program.
use Rattle.std.specs.Prelude.{◌≡◌, ◌≢◌, ◌⊎◌, ℕ, Bool, true, List, [], ◌∷◌, Some, Result, String, string_bytes}
use Rattle.std.specs.declared.alloc.Global.{Global}
use Rattle.clap.specs.Words.{IsAmong, Text}
use Rattle.clap.specs.declared.error.kind.ErrorKind.TheVariants.{DisplayHelp, DisplayVersion}
use Rattle.cli_arguments.specs.LineFaults.{IsRefusedBy, refusal_of}
use Rattle.cli_arguments.specs.Lines.{Line, error_kinds, is_in_order, line_of, named_command}
use Rattle.cli_arguments.specs.declared.line_faults.LineFault.TheVariants as fault
use Rattle.command_common.specs.declared.{failures.Failure.Failure, faults.Status.Status}
use Rattle.command_common.specs.{Outputs.Takes, Outputs.Writer, Statuses.exit_status}
use Rattle.command_common.specs.declared.notes.Note.{Note}
use Rattle.cli_run.specs.Files.{Calls, IsDone}
use Rattle.cli_standard_error.specs.Ending.{Refuses, WantsMemory}
use Rattle.cli_standard_error.specs.StandardError.{IsPushed, SaysEnd, reason_in}

-- No call to the system was noted, and no input was made.
pub record IsIdle {S D T : Type 0} (calls : Calls S D T) : Type 0 where
  pub asked : calls.asked_new ≡ calls.asked_old
  pub uncalled : calls.called ≡ []

-- The words are accepted and this is their line. It was carried out over files of the system, unless memory ran out
-- before that; its notes were printed, or why it failed; and the exit status is that of the result.
pub record Ran {S D T : Type 0} (calls : Calls S D T) (words : List Text) (told standard_error : Writer) (status : ℕ)
    : Type 0 where
  pub line : Line
  pub ended : Result Status Failure
  pub notes : List Note
  pub accepted : error_kinds words ≡ []
  pub line_is : Some line ≡ line_of words
  pub carried : IsDone calls line told ended notes
  pub says : SaysEnd standard_error line ended notes
  pub status_is : status ≡ exit_status ended

-- the words are not accepted, or a value lacks its form, or OUT is an input
abbrev pub HasNoPlan : List Text → Type 0
HasNoPlan words = error_kinds words ≡ [] → is_in_order words ≡ true → ⊥

-- The words are refused, and the reason is printed: for accepted words, the first one of the command that they name.
pub record IsRefused (words : List Text) (told standard_error : Writer) (status : ℕ) : Type 0 where
  pub no_plan : HasNoPlan words
  pub no_help : error_kinds words ≢ DisplayHelp ∷ []
  pub no_version : error_kinds words ≢ DisplayVersion ∷ []
  pub text : String Global
  pub accepted : error_kinds words ≡ [] → IsRefusedBy (refusal_of (named_command words)) (fault.Refused text)
  pub refuses : Refuses told standard_error (reason_in (string_bytes text)) status

-- The words ask for help or for the version, which is printed to the report.
pub record IsHelped (words : List Text) (told standard_error : Writer) (status : ℕ) : Type 0 where
  pub no_plan : HasNoPlan words
  pub asked : ¬ IsAmong DisplayHelp (error_kinds words) → ¬ IsAmong DisplayVersion (error_kinds words) → ⊥
  pub text : List ℕ
  pub whole : Bool
  pub tells : IsPushed told text whole
  pub nothing_said : Takes standard_error []
  pub status_is : status ≡ 0

-- The end of the program with these words: their line was carried out; or they are refused, or ask for help, or memory
-- runs out, and no call was made.
abbrev pub EndsWords : {S D T : Type 0} → Calls S D T → List Text → Writer → Writer → ℕ → Type 0
EndsWords calls words told standard_error status =
    Ran calls words told standard_error status
    ⊎ (IsIdle calls
    × (IsRefused words told standard_error status ⊎ IsHelped words told standard_error status
    ⊎ WantsMemory told standard_error status))
