use Rattle.std.proofs.Common.{◌≡◌, ◌∙◌, ap, length, map}
use Rattle.cli_arguments.specs.{LineView.line_view, Lines.inputs_of}
use Rattle.cli_run.proofs.Waiting.{as_many}
use Rattle.test_acceptance.proofs.commands.run_line.Goals as goal

pub by_kind-requires : goal.by_kind-requires
by_kind-requires g c =
    let paths : map (λ p. p.now) c.deref.result.now ≡ inputs_of (line_view c.args.line.now) =
    ap (map (λ p. p.now)) c.deref.ensures.value ∙ c.in_ok-inputs.ensures in
    as_many _ _ c.make_inputs.new.inputs.items c.in_ok-make_inputs.ensures ∙ ap length paths

pub execute_on-ended-requires : goal.execute_on-ended-requires
execute_on-ended-requires g c = c.in_ok-inputs-2.ensures.enough c.of.result c.of.ensures
