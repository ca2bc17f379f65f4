-- The exit statuses.
use Rattle.std.specs.Prelude.{ℕ, Result, Ok, Err}
use Rattle.command_common.specs.declared.failures.Failure.{Failure}
use Rattle.command_common.specs.declared.failures.Failure.TheVariants.{Command}
use Rattle.command_common.specs.declared.faults.CommandFault.TheVariants.{OutOfMemory}
use Rattle.command_common.specs.declared.faults.Status.{Status}
use Rattle.command_common.specs.declared.faults.Status.TheVariants.{Done, Partial, SomeRefused}

-- the status for a command that was carried out: all was done or found; the answer is empty or has no single symbol; or
-- part of it was refused, as the report says; and for a failure: memory ran out, or an input was refused or a device
-- failed
abbrev pub exit_status : Result Status Failure → ℕ
exit_status (Ok Done) = 0
exit_status (Ok Partial) = 1
exit_status (Ok SomeRefused) = 2
exit_status (Err (Command OutOfMemory)) = 4
exit_status (Err _) = 2
