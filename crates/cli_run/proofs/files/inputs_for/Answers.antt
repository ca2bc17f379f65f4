use Rattle.std.proofs.Common.{◌≡◌, ◌∙◌, ◌++◌, ap, length, map}
use Rattle.command_archives.proofs.Taking.{always as on_any}
use Rattle.cli_arguments.specs.{Inputs.inputs_view, LineView.line_view, Lines.inputs_of}
use Rattle.cli_run.proofs.Waiting.{all_of_line, as_many}
use Rattle.cli_run.proofs.files.inputs_for.Goals as goal

pub by_kind-requires : goal.by_kind-requires
by_kind-requires g c =
    let paths : map (λ p. p.now) c.deref.result.now ≡ inputs_of (line_view c.args.line.now) =
    ap (map (λ p. p.now)) c.deref.ensures.value ∙ c.in_ok-paths.ensures in
    as_many _ _ c.in_ok-inputs.inputs.items c.in_ok-inputs.ensures.inputs ∙ ap length paths

pub returns-clause-inputs : goal.returns-clause-inputs
returns-clause-inputs g c =
    let paths : map (λ p. p.now) c.deref.result.now ≡ inputs_of (line_view c.args.line.now) =
    ap (map (λ p. p.now)) c.deref.ensures.value ∙ c.in_ok-paths.ensures in
    all_of_line _ inputs_view (line_view c.args.line.now) (map (λ p. p.now) c.deref.result.now)
    c.in_ok-inputs.inputs.items c.by_kind.result c.in_ok-inputs.ensures.inputs paths c.by_kind.ensures.picked

pub returns-clause-asked : goal.returns-clause-asked
returns-clause-asked g c =
    let paths : map (λ p. p.now) c.deref.result.now ≡ inputs_of (line_view c.args.line.now) =
    ap (map (λ p. p.now)) c.deref.ensures.value ∙ c.in_ok-paths.ensures in
    on_any c.by_kind.result
    (c.in_ok-inputs.ensures.asked ∙ ap (λ ps. c.args.files.now.asked.entries ++ ps) paths)
