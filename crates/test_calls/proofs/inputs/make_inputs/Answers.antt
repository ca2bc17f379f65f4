use Rattle.cli_files.proofs.Asked.{inputs_more, is_waiting}
use Rattle.test_calls.proofs.inputs.make_inputs.Goals as goal

pub paths-preserved : goal.paths-preserved
paths-preserved c =
    inputs_more _ (λ p. p.now) c.args.paths.now c.paths.path-index c.paths.inputs.items c.push.new.self.items _ _
    c.paths-test.true c.in_ok-push.ensures.items c.paths.invariant
    (is_waiting _ _ _ c.new.result _ c.new.ensures.path c.new.ensures.waiting c.new.ensures.unfailed)
