-- What is known of the file at which a command failed.
use Rattle.std.specs.Prelude.{Option, Some, None}
use Rattle.std.specs.declared.io.Error.{Error}
use Rattle.byte_device.specs.declared.Placed.{Ghosts as Places}
use Rattle.byte_device.specs.declared.Source.{Ghosts as Sources}
use Rattle.cli_files.specs.Opened.{reason_of}
use Rattle.cli_files.specs.OutFiles.{Stage, obstacle_of, reason_of as out_reason}
use Rattle.cli_files.specs.declared.disks.Disk.{Ghosts as Disks}
use Rattle.cli_files.specs.declared.input_state.{InputState.InputState, LazyInput.LazyInput}
use Rattle.cli_files.specs.declared.input_state.InputState.TheVariants as state
use Rattle.cli_files.specs.declared.input_state.Unopened.TheVariants as why
use Rattle.cli_files.specs.declared.{opened_file.OpenedFile.OpenedFile, placed_file.PlacedFile.PlacedFile}
use Rattle.cli_standard_error.specs.FileKinds.{kind_of}
use Rattle.cli_standard_error.specs.declared.hints.Seen.{Seen}

abbrev pub nothing : Seen
nothing = record { reason = None; kind = None; obstacle = None }

-- for a file that is read from its start: the last error of the system, and the kind of its first bytes
abbrev pub seen_open : {R : Type 0} → OpenedFile R → Seen
seen_open file = record { reason = reason_of file.reading; kind = kind_of file.leading_bytes; obstacle = None }

-- the same for a file that is read at any offset
abbrev pub seen_placed : {R : Type 0} → PlacedFile R → Seen
seen_placed file = record { reason = file.placing.reason; kind = kind_of file.leading_bytes; obstacle = None }

-- the same for an input in this state; if it was not opened, the error of the system
abbrev pub seen_in : {R P : Type 0} → InputState (OpenedFile R) (PlacedFile P) → Seen
seen_in state.Waiting = nothing
seen_in (state.Open file) = seen_open file
seen_in (state.Placed file) = seen_placed file
seen_in (state.Unopened (why.Refused refused)) = record { reason = Some refused.reason; kind = None; obstacle = None }
seen_in (state.Unopened why.OutOfMemory) = nothing

-- the same for an input, if there is one
abbrev pub seen_of : {D R P : Type 0} {disk : Disks D (OpenedFile R) (PlacedFile P)} {input : Sources (OpenedFile R)}
    {places : Places (PlacedFile P)} → Option (LazyInput D (OpenedFile R) (PlacedFile P) disk input places) → Seen
seen_of None = nothing
seen_of (Some file) = seen_in file.state

-- the same for OUT at this stage, with this last error
abbrev pub seen_at_out : Stage → Option Error → Seen
seen_at_out stage last = record { reason = out_reason stage last; kind = None; obstacle = obstacle_of stage }
