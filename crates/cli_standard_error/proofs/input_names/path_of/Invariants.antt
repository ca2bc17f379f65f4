use Rattle.std.proofs.Common.{◌≡◌, map}
use Rattle.std.specs.Prelude.{slice_get}
use Rattle.cli_arguments.specs.{Arguments.reads_kind, LineView.line_view, TableView.argument_in}
use Rattle.cli_arguments.specs.{ValuesView.values_view, Lines.inputs_of_kind, Lines.texts_by}
use Rattle.cli_standard_error.proofs.input_names.path_of.Given as goal

-- so many of the kind are left to pass
abbrev pub invariant-arguments : goal.invariant-arguments
invariant-arguments l =
    slice_get (texts_by (reads_kind l.kind) (map argument_in l.argument-iterator.a.rest.now)
    (map values_view l.argument-iterator.b.rest.now)) l.left
    ≡ slice_get (inputs_of_kind l.kind (line_view l.line)) l.number
