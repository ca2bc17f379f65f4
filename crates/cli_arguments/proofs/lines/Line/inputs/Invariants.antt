use Rattle.std.proofs.Common.{◌≡◌, ◌++◌, map}
use Rattle.cli_arguments.specs.{Arguments.reads, LineView.line_view, Lines.inputs_of, Lines.texts_by}
use Rattle.cli_arguments.specs.{TableView.argument_in, ValuesView.values_view}
use Rattle.cli_arguments.proofs.lines.Line.inputs.Given as goal

-- the paths of what is passed, and those of what is left
abbrev pub invariant-arguments : goal.invariant-arguments
invariant-arguments l =
    map (λ p. p.now) l.paths.items
    ++ texts_by reads (map argument_in l.argument-iterator.a.rest.now) (map values_view l.argument-iterator.b.rest.now)
    ≡ inputs_of (line_view l.self)
