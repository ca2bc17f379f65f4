use Rattle.std.proofs.Common.{◌∙◌, ◌++◌, append-nil, ap, inl, inr, map, sym}
use Rattle.cli_arguments.specs.{Arguments.reads, TableView.argument_in, ValuesView.values_view}
use Rattle.cli_arguments.proofs.Passed.{none_left}
use Rattle.cli_arguments.proofs.lines.Line.inputs.Goals as goal

pub returns : goal.returns
returns c =
    let none = none_left reads argument_in values_view c.arguments.argument-iterator.a.rest.now
    c.arguments.argument-iterator.b.rest.now
    (elim c.in-None.ensures.steps [ inl first ↦ inl first.1.0 | inr second ↦ inr second.1.0 ]) in
    let paths = map (λ p. p.now) c.arguments.paths.items in
    sym (append-nil paths) ∙ ap (λ left. paths ++ left) (sym none) ∙ c.arguments.invariant
