use Rattle.std.proofs.Common.{◌∙◌, ◌+◌, ◌++◌, ◌∷◌, [], ap}
use Rattle.cli_files.proofs.Asked.{asked_more, first_asked, inputs_more, is_waiting}
use Rattle.cli_files.proofs.inputs.make_inputs.Goals as goal

pub paths-preserved : goal.paths-preserved
paths-preserved g c =
    let before = c.paths.invariant in (
      asked_more (λ p. p.now) c.args.paths.now c.paths.path-index _ _ _ _ c.paths-test.true before.0
          (c.note.ensures ∙ ap (λ e. c.paths.asked.entries ++ e ∷ []) c.as_bytes.ensures.value),
      inputs_more _ (λ p. p.now) c.args.paths.now c.paths.path-index c.paths.inputs.items c.push.new.self.items _ _
          c.paths-test.true c.in_ok-push.ensures.items before.1
          (is_waiting _ _ _ c.new-in-paths.result _ c.new-in-paths.ensures.path c.new-in-paths.ensures.waiting
          c.new-in-paths.ensures.unfailed),
    )

pub returns-in_err-push-clause-first : goal.returns-in_err-push-clause-first
returns-in_err-push-clause-first g c =
    first_asked (λ p. p.now) c.args.paths.now (c.paths.path-index + 1) _ _
    (asked_more (λ p. p.now) c.args.paths.now c.paths.path-index _ _ _ _ c.paths-test.true c.paths.invariant.0
    (c.note.ensures ∙ ap (λ e. c.paths.asked.entries ++ e ∷ []) c.as_bytes.ensures.value))
