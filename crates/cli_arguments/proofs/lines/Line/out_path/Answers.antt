use Rattle.std.proofs.Common.{◌∙◌, ap, inl, inr, sym}
use Rattle.std.specs.Prelude.{slice_get}
use Rattle.cli_arguments.specs.{Arguments.writes, TableView.argument_in, ValuesView.values_view}
use Rattle.cli_arguments.proofs.Passed.{none_left}
use Rattle.cli_arguments.proofs.lines.Line.out_path.Goals as goal

pub returns : goal.returns
returns c =
    let none = none_left writes argument_in values_view c.arguments.argument-iterator.a.rest.now
    c.arguments.argument-iterator.b.rest.now
    (elim c.in-None.ensures.steps [ inl first ↦ inl first.1.0 | inr second ↦ inr second.1.0 ]) in
    ap (λ left. slice_get left 0) (sym none) ∙ c.arguments.invariant
