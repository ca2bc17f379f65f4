-- What a command that ended well notes, from what its parts did.
use Rattle.std.proofs.Common.{◌≡◌, ℕ, List, [], Option, Some, Result, Ok, Err, ap, inl, inr}
use Rattle.std.specs.Prelude.{IsErrAnd, MatchResult, OnOk}
use Rattle.clap.specs.Words.{Text}
use Rattle.cli_arguments.specs.Lines.{Line, error_kinds, inputs_of, line_of}
use Rattle.cli_files.specs.{InputStates.AreFirstAsked, declared.replaceable.OutFault.OutFault}
use Rattle.command_common.specs.declared.notes.Note.{Note}
use Rattle.command_common.specs.declared.failures.Failure.{Failure, TheVariants.Command}
use Rattle.command_common.specs.{Outputs.Writer, Statuses.exit_status, declared.faults.Status.Status}
use Rattle.command_common.specs.declared.faults.CommandFault.{CommandFault, TheVariants.OutOfMemory}
use Rattle.cli_run.specs.{Ends.Ran, Files.Calls, Files.IsCarriedOut, Files.IsDone, Files.command_fault_of}
use Rattle.cli_standard_error.specs.StandardError.{SaysFailure, SaysNotes}

module _ {S D T V : Type 0} (items : V → List Note) (calls : Calls S D T) (line : Line) where
  abbrev pub Done : Writer → Result (Status × V) Failure → Type 0
  Done report r = MatchResult r (λ both. IsDone calls line report (Ok both.0) (items both.1)) (λ failure. IsDone calls line report (Err failure) [])

  -- there was no memory to begin it
  pub unbegun : (report : Writer) (r : Result (Status × V) Failure) → IsErrAnd r (λ e. e ≡ Command OutOfMemory)
      → AreFirstAsked calls.asked_old calls.asked_new (inputs_of line) → calls.called ≡ [] → report.new ≡ report.old
      → report.failures_new ≡ report.failures_old → Done report r
  unbegun report (Ok both) wants asked uncalled same unfailed = absurd wants
  unbegun report (Err failure) wants asked uncalled same unfailed = inl (record {
    wanting = ap (λ e. Err e) wants;
    asked = asked;
    uncalled = uncalled;
    report_same = same;
    report_unfailed = unfailed;
  })

  -- it was carried out, and this is told of it
  pub told_done : (report : Writer) (fault : Option OutFault) (ended : Result Status CommandFault) (noted : List Note)
      (r : Result (Status × V) Failure)
      → MatchResult r (λ both. (Ok both.0 ≡ command_fault_of fault ended) × (items both.1 ≡ noted))
      (λ failure. Err failure ≡ command_fault_of fault ended)
      → ((told : Result Status Failure) (notes : List Note) → told ≡ command_fault_of fault ended
      → OnOk told (notes ≡ noted) → IsCarriedOut calls line report told notes) → Done report r
  told_done report fault ended noted (Ok both) told carried = inr (carried (Ok both.0) (items both.1) told.0 told.1)
  told_done report fault ended noted (Err failure) told carried = inr (carried (Err failure) [] told tt)

  pub ran : (words : List Text) (told standard_error : Writer) (status : ℕ) → error_kinds words ≡ [] → Some line
      ≡ line_of words → (r : Result (Status × V) Failure) → Done told r
      → MatchResult r (λ both. SaysNotes standard_error (items both.1)) (λ failure. SaysFailure standard_error line failure)
      → MatchResult r (λ both. status ≡ exit_status (Ok both.0)) (λ failure. status ≡ exit_status (Err failure)) → Ran calls words told standard_error status
  ran words told standard_error status accepted line_is (Ok both) carried says status_is = record {
    line = line;
    ended = Ok both.0;
    notes = items both.1;
    accepted = accepted;
    line_is = line_is;
    carried = carried;
    says = says;
    status_is = status_is;
  }
  ran words told standard_error status accepted line_is (Err failure) carried says status_is = record {
    line = line;
    ended = Err failure;
    notes = [];
    accepted = accepted;
    line_is = line_is;
    carried = carried;
    says = says;
    status_is = status_is;
  }
