use Rattle.std.proofs.Common.{◌≡◌, map}
use Rattle.std.specs.Prelude.{slice_get}
use Rattle.cli_arguments.specs.{Arguments.writes, LineView.line_view, Lines.out_of, Lines.texts_by}
use Rattle.cli_arguments.specs.{TableView.argument_in, ValuesView.values_view}
use Rattle.cli_arguments.proofs.lines.Line.out_path.Given as goal

-- OUT is not passed
abbrev pub invariant-arguments : goal.invariant-arguments
invariant-arguments l =
    slice_get (texts_by writes (map argument_in l.argument-iterator.a.rest.now)
    (map values_view l.argument-iterator.b.rest.now)) 0
    ≡ out_of (line_view l.self)
