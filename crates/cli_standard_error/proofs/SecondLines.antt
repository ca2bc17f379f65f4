-- The line that helps a person.
use Rattle.std.proofs.Common.{true, refl, inl}
use Rattle.command_common.specs.{declared.failures.Failure.Failure, Outputs.Writer, FaultTexts.failure_text}
use Rattle.cli_arguments.specs.Lines.{Line}
use Rattle.cli_standard_error.specs.StandardError.{SaysFailure, SaysLine}
use Rattle.byte_device.proofs.Known.{Appends-none as nothing_more}

-- no help is said of a failure whose line was
pub without_help : (standard_error : Writer) (asked : Line) (failure : Failure) → SaysLine standard_error (failure_text failure) true
    → SaysFailure standard_error asked failure
without_help standard_error asked failure is =
    inl (standard_error.new, standard_error.failures_new, is, inl (nothing_more standard_error.new, refl))
