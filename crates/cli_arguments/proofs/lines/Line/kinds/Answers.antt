use Rattle.std.proofs.Common.{◌∙◌, ◌++◌, append-nil, ap, inl, inr, sym}
use Rattle.cli_arguments.specs.{TableView.argument_in, ValuesView.values_view}
use Rattle.cli_arguments.proofs.Picking.{no_kinds}
use Rattle.cli_arguments.proofs.lines.Line.kinds.Goals as goal

pub returns : goal.returns
returns c =
    let none = no_kinds argument_in values_view c.arguments.argument-iterator.a.rest.now
    c.arguments.argument-iterator.b.rest.now
    (elim c.in-None.ensures.steps [ inl first ↦ inl first.1.0 | inr second ↦ inr second.1.0 ]) in
    let kinds = c.arguments.kinds.items in
    sym (append-nil kinds) ∙ ap (λ left. kinds ++ left) (sym none) ∙ c.arguments.invariant
