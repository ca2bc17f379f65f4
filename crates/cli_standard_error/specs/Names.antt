-- The input of a line for each name.
use Rattle.std.specs.Prelude.{ℕ, List, Option, slice_get}
use Rattle.cli_files.specs.InputStates.{AreWaiting, Told}
use Rattle.clap.specs.Words.{Text}
use Rattle.command_common.specs.declared.faults.InputName.{InputName}
use Rattle.command_common.specs.declared.faults.InputName.TheVariants.{Archive, File, Ops, Summary, Script, Frames}
use Rattle.command_common.specs.declared.faults.InputName.TheVariants.{Index}
use Rattle.cli_arguments.specs.{Inputs.Inputs, Inputs.of_kind, Lines.Line, Lines.inputs_of_kind}
use Rattle.cli_arguments.specs.declared.commands.Kind.{Kind}
use Rattle.cli_arguments.specs.declared.commands.Kind.TheVariants as kinds

-- the kind of the input with this name
abbrev pub kind_of : InputName → Kind
kind_of (Archive number) = kinds.Archive
kind_of (File number) = kinds.File
kind_of Ops = kinds.Ops
kind_of Summary = kinds.Summary
kind_of Script = kinds.Script
kind_of Frames = kinds.Frames
kind_of (Index number) = kinds.Index

-- its number among the inputs of its kind
abbrev pub number_of : InputName → ℕ
number_of (Archive number) = number
number_of (File number) = number
number_of Ops = 0
number_of Summary = 0
number_of Script = 0
number_of Frames = 0
number_of (Index number) = number

-- the path of the input with this name: the one with that number among those of its kind
abbrev pub path_at : Line → InputName → Option Text
path_at line name = slice_get (inputs_of_kind (kind_of name) line) (number_of name)

-- the input with this name
abbrev pub input_at : {S : Type 0} → Inputs S → InputName → Option S
input_at inputs name = slice_get (of_kind (kind_of name) inputs) (number_of name)

-- The inputs of each kind have the paths of that kind in the line, in order, and were not read yet.
abbrev pub AreOfLine : {S : Type 0} → Told S → Line → Inputs S → Type 0
AreOfLine told line inputs = (kind : Kind) → AreWaiting told (inputs_of_kind kind line) (of_kind kind inputs)
