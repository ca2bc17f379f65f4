use Rattle.std.proofs.Common.{◌≡◌, ◌∙◌, ◌++◌, append-nil, ap, inl, inr, sym, refl, length}
use Rattle.cli_arguments.specs.{Inputs.inputs_view, Inputs.kinds_of, Inputs.of_kind, Inputs.picked, LineView.line_view}
use Rattle.cli_arguments.specs.Lines.{inputs_of}
use Rattle.cli_arguments.proofs.Picking.{none_picked, one_passed, picked_long, picked_paths}
use Rattle.cli_arguments.proofs.Counted.{enough}
use Rattle.cli_arguments.proofs.lines.Line.by_kind.Goals as goal

pub inputs-init : goal.inputs-init
inputs-init g c = λ kind.
    let given = c.into_iter-kind-iterator.ensures.into_iter_gives in
    let kinds : c.into_iter-kind-iterator.result.a.rest.now ≡ kinds_of (line_view c.args.self.now) =
    ap (λ i. i.a.rest.now) given ∙ ap (λ i. i.rest.now) c.zip-kind-items.ensures.first ∙ c.iter.ensures.rest
    ∙ c.deref.ensures.value ∙ c.in_ok-kinds.ensures in
    let items : c.into_iter-kind-iterator.result.b.rest.items ≡ c.args.inputs.items =
    ap (λ i. i.b.rest.items) given ∙ c.zip-kind-items.ensures.second.0 in
    rw (c.new-all.ensures kind, kinds, items) refl

pub inputs-preserved : goal.inputs-preserved
inputs-preserved g c = λ kind.
    let steps = c.in-Some.ensures.steps in
    let so_far = c.inputs.invariant kind in
    let pushed = c.in_ok-push.ensures kind in
    let more = one_passed kind c.in-Some.kind.now c.next.new.self.a.rest.now c.in-Some.input
    c.next.new.self.b.rest.items (picked kind (kinds_of (line_view c.args.self.now)) c.args.inputs.items)
    (of_kind kind (inputs_view c.inputs.all)) (rw (steps.0, steps.1.0) at so_far) in
    rw pushed more

pub returns-clause-picked : goal.returns-clause-picked
returns-clause-picked g c = λ kind.
    let none = none_picked kind c.inputs.kind-iterator.a.rest.now c.inputs.kind-iterator.b.rest.items
    (elim c.in-None.ensures.steps [ inl first ↦ inl first.1.0 | inr second ↦ inr (sym c.inputs.kind-iterator.b.rest.ok.0 ∙ second.1.0) ]) in
    let so_far = of_kind kind (inputs_view c.inputs.all) in
    sym (append-nil so_far) ∙ ap (λ left. so_far ++ left) (sym none) ∙ c.inputs.invariant kind

pub returns-clause-enough : goal.returns-clause-enough
returns-clause-enough g c = λ plan is.
    let line = line_view c.args.self.now in
    enough line (inputs_view c.inputs.all) c.args.self.now.of_table
    (λ kind. ap length (returns-clause-picked g c kind)
    ∙ picked_long kind (kinds_of line) c.args.inputs.items (inputs_of line) c.requires
    ∙ ap length (picked_paths kind line)) plan is
