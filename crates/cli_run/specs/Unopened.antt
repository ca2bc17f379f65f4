-- The result of a command whose input was not opened at its first read.
use Rattle.std.specs.Prelude.{◌≡◌, Option, Some, None, Result, Ok, Err}
use Rattle.cli_files.specs.InputStates.{Told, unopened_in}
use Rattle.cli_files.specs.declared.input_state.Unopened.{Unopened}
use Rattle.cli_files.specs.declared.input_state.Unopened.TheVariants as unopened
use Rattle.cli_arguments.specs.Inputs.{Inputs}
use Rattle.command_common.specs.declared.faults.{CommandFault.CommandFault, InputName.InputName, Status.Status}
use Rattle.command_common.specs.declared.faults.CommandFault.TheVariants.{Input, Output, Report, OutOfMemory}
use Rattle.command_common.specs.declared.faults.Why.{Why, TheVariants.CannotOpen as NotOpened}
use Rattle.cli_standard_error.specs.Names.{input_at}

-- why an input was not opened at its first read, if it was not
abbrev pub unopened_of : {S : Type 0} → Told S → Option S → Option Unopened
unopened_of told None = None
unopened_of told (Some input) = unopened_in (told.stage input)

-- the fault that is reported if a command is refused for this input, and `why` the input was not opened, if it was not
abbrev pub fault_at : Option Unopened → InputName → Why → CommandFault
fault_at None name why = Input name why
fault_at (Some (unopened.Refused refused)) name why = Input name NotOpened
fault_at (Some unopened.OutOfMemory) name why = OutOfMemory

-- The reported result of a command with this result and these inputs after it: if an input is refused that was not
-- opened, the reason for that; otherwise the command's result.
abbrev pub ReportsUnopened : {S : Type 0} → Told S → Inputs S → Result Status CommandFault
    → Result Status CommandFault → Type 0
ReportsUnopened told inputs (Ok status) result = result ≡ Ok status
ReportsUnopened told inputs (Err (Input name why)) result =
    result ≡ Err (fault_at (unopened_of told (input_at inputs name)) name why)
ReportsUnopened told inputs (Err (Output n)) result = result ≡ Err (Output n)
ReportsUnopened told inputs (Err (Report n)) result = result ≡ Err (Report n)
ReportsUnopened told inputs (Err OutOfMemory) result = result ≡ Err OutOfMemory
