use Rattle.std.proofs.Common.{◌≡◌, ◌++◌}
use Rattle.cli_arguments.specs.{Inputs.inputs_view, Inputs.kinds_of, Inputs.of_kind, Inputs.picked, LineView.line_view}
use Rattle.cli_arguments.specs.declared.commands.Kind.{Kind}
use Rattle.cli_arguments.proofs.lines.Line.by_kind.Given as goal

-- those of a kind that are passed, and those that are left
abbrev pub invariant-inputs : goal.invariant-inputs
invariant-inputs g l =
    (kind : Kind) → of_kind kind (inputs_view l.all) ++ picked kind l.kind-iterator.a.rest.now l.kind-iterator.b.rest.items
    ≡ picked kind (kinds_of (line_view l.self)) l.fn.inputs.items
