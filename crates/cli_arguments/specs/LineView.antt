-- A line of the program, as a value of the definitions.
use Rattle.std.specs.Prelude.{map, string_bytes}
use Rattle.cli_arguments.specs.{ValuesView.values_view, Lines.Line, declared.lines.Line.Line as LineOfProgram}

abbrev pub line_view : LineOfProgram → Line
line_view line = record { name = string_bytes line.name; values = map values_view line.values.items }
