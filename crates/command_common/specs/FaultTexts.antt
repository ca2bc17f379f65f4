-- The printed texts of the faults of commands.
use Rattle.std.specs.Prelude.{List, ℕ, ◌++◌, codes, Some, None}
use Rattle.std.specs.Fmt.{decimal}
use Rattle.byte_device.specs.Disks.{cannot_create_text}
use Rattle.index_format.specs.IndexFaultText.{fault_text}
use Rattle.text_reports.specs.Texts.{script_fault_text}
use Rattle.text_reports.specs.Texts.{record_fault_text, take_fault_text}
use Rattle.command_common.specs.declared.faults.InputName.{InputName}
use Rattle.command_common.specs.declared.faults.InputName.TheVariants.{Archive, File, Ops, Summary}
use Rattle.command_common.specs.declared.faults.InputName.TheVariants.{Script as ScriptInput}
use Rattle.command_common.specs.declared.faults.InputName.TheVariants.{Frames, Index}
use Rattle.command_common.specs.declared.faults.Why.{Why}
use Rattle.command_common.specs.declared.faults.Why.TheVariants.{CannotOpen, Device, Record, Take, Script, BadFrame}
use Rattle.command_common.specs.declared.faults.Why.TheVariants.{OldArchive, TooLong, Index as IndexFaulty, NoArchive}
use Rattle.command_common.specs.declared.faults.Why.TheVariants.{Stale, Damaged, NoIndex, NoLines}
use Rattle.command_common.specs.declared.faults.CommandFault.{CommandFault}
use Rattle.command_common.specs.declared.faults.CommandFault.TheVariants.{Input, Output, Report, OutOfMemory}
use Rattle.command_common.specs.declared.failures.Failure.{Failure}
use Rattle.command_common.specs.declared.failures.Failure.TheVariants.{Command, CannotCreate, CannotReplace}

-- an input by its kind, with its number if there may be several
unfoldable pub name_text : InputName → List ℕ
name_text (Archive number) = codes "archive " ++ decimal number
name_text (File number) = codes "file " ++ decimal number
name_text Ops = codes "ops"
name_text Summary = codes "summary"
name_text ScriptInput = codes "script"
name_text Frames = codes "frames"
name_text (Index number) = codes "index " ++ decimal number

-- the fault of an input
unfoldable pub why_text : Why → List ℕ
why_text CannotOpen = codes "cannot open"
why_text Device = codes "Device"
why_text (Record fault) = record_fault_text fault
why_text (Take fault) = take_fault_text fault
why_text (Script fault line _) = script_fault_text fault ++ codes " at line " ++ decimal line
why_text (BadFrame line _) = codes "BadFrame at line " ++ decimal line
why_text OldArchive = codes "OldArchive"
why_text TooLong = codes "TooLong"
why_text (IndexFaulty fault) = fault_text fault
why_text (Stale None) = codes "Stale"
why_text (Stale (Some entry)) = codes "Stale at entry " ++ decimal entry
why_text (Damaged entry) = codes "Damaged at entry " ++ decimal entry
why_text (NoLines entry) = codes "NoLines at entry " ++ decimal entry
why_text NoArchive = codes "NoArchive"
why_text NoIndex = codes "NoIndex"

-- a failed device: the number of bytes that it had accepted
abbrev pub failed_after : ℕ → List ℕ
failed_after written = codes "failed after " ++ decimal written ++ codes " bytes"

-- the input or device, and its fault
unfoldable pub command_fault_text : CommandFault → List ℕ
command_fault_text (Input name why) = name_text name ++ codes ": " ++ why_text why
command_fault_text (Output written) = codes "output: " ++ failed_after written
command_fault_text (Report written) = codes "report: " ++ failed_after written
command_fault_text OutOfMemory = codes "out of memory"

-- the line of a failure
unfoldable pub failure_text : Failure → List ℕ
failure_text (Command fault) = codes "symarch: " ++ command_fault_text fault
failure_text (CannotCreate _) = codes "symarch: " ++ cannot_create_text
failure_text CannotReplace = codes "symarch: output: cannot replace"
