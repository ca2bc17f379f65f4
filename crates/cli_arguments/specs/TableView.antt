-- The table of the program, as a value of the definitions.
use Rattle.std.specs.Prelude.{map}
use Rattle.cli_arguments.specs.Arguments.{Argument, Count, Flag, Often, Once, Perhaps, Several}
use Rattle.cli_arguments.specs.{Table.Signature, declared.commands.Signature.Signature as SignatureOfProgram}
use Rattle.cli_arguments.specs.declared.commands.{Argument.Argument as ArgumentOfProgram, Count.Count as CountOfProgram}
use Rattle.cli_arguments.specs.declared.commands.Count.TheVariants as counts

abbrev pub count_in : CountOfProgram → Count
count_in counts.Once = Once
count_in counts.Several = Several
count_in (counts.Perhaps option) = Perhaps option.now
count_in (counts.Often option) = Often option.now
count_in (counts.Flag option) = Flag option.now

abbrev pub argument_in : ArgumentOfProgram → Argument
argument_in a = record { name = a.name.now; count = count_in a.count; role = a.role }

-- no definition has the help texts
abbrev pub signature_in : SignatureOfProgram → Signature
signature_in s = record { name = s.name.now; arguments = map argument_in s.arguments.now }
