use Rattle.std.proofs.Common.{◌∙◌, ap, inl, inr, sym}
use Rattle.std.specs.Prelude.{slice_get}
use Rattle.cli_arguments.specs.{Arguments.reads_kind, TableView.argument_in, ValuesView.values_view}
use Rattle.cli_arguments.proofs.Passed.{none_left}
use Rattle.cli_standard_error.proofs.input_names.path_of.Goals as goal

pub returns : goal.returns
returns c =
    let none = none_left (reads_kind c.args.kind) argument_in values_view c.arguments.argument-iterator.a.rest.now
    c.arguments.argument-iterator.b.rest.now
    (elim c.in-None.ensures.steps [ inl first ↦ inl first.1.0 | inr second ↦ inr second.1.0 ]) in
    ap (λ left. slice_get left c.arguments.left) (sym none) ∙ c.arguments.invariant
