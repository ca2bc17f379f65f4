-- The message of the program at its end, and its exit status.
use Rattle.std.specs.Prelude.{◌≡◌, ℕ, Bool, [], codes, string_bytes}
use Rattle.clap.specs.Words.{Text}
use Rattle.cli_arguments.specs.declared.line_faults.LineFault.{LineFault}
use Rattle.cli_arguments.specs.declared.line_faults.LineFault.TheVariants as fault
use Rattle.command_common.specs.Outputs.{Takes, Writer}
use Rattle.cli_standard_error.specs.StandardError.{IsPushed, SaysRefused, SaysWanting, reason_in}

-- Nothing is reported, and this reason is printed.
pub record Refuses (told standard_error : Writer) (reason : Text) (status : ℕ) : Type 0 where
  pub nothing_told : Takes told []
  pub says : SaysRefused standard_error reason
  pub status_is : status ≡ 3

-- Memory ran out, and that is printed.
pub record WantsMemory (told standard_error : Writer) (status : ℕ) : Type 0 where
  pub nothing_told : Takes told []
  pub whole : Bool
  pub says : SaysWanting standard_error whole
  pub status_is : status ≡ 4

-- The end if the words could not be read for a reason other than lack of memory.
abbrev pub IsUnreadable : Writer → Writer → ℕ → Type 0
IsUnreadable told standard_error status = Refuses told standard_error (codes "invalid word: expected UTF-8 text") status

-- the report, the message and the exit status for a line without a plan
abbrev pub EndsLine : LineFault → Writer → Writer → ℕ → Type 0
EndsLine (fault.Help text) told standard_error status =
    (whole : Bool) × IsPushed told (string_bytes text) whole × Takes standard_error [] × (status ≡ 0)
EndsLine (fault.Refused text) told standard_error status =
    Refuses told standard_error (reason_in (string_bytes text)) status
EndsLine fault.OutOfMemory told standard_error status = WantsMemory told standard_error status
