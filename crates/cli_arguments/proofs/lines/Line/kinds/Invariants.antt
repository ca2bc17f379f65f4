use Rattle.std.proofs.Common.{◌≡◌, ◌++◌, map}
use Rattle.cli_arguments.specs.{Inputs.kinds_by, Inputs.kinds_of, LineView.line_view}
use Rattle.cli_arguments.specs.{TableView.argument_in, ValuesView.values_view}
use Rattle.cli_arguments.proofs.lines.Line.kinds.Given as goal

-- the kinds of what is passed, and those of what is left
abbrev pub invariant-arguments : goal.invariant-arguments
invariant-arguments l =
    l.kinds.items
    ++ kinds_by (map argument_in l.argument-iterator.a.rest.now) (map values_view l.argument-iterator.b.rest.now)
    ≡ kinds_of (line_view l.self)
