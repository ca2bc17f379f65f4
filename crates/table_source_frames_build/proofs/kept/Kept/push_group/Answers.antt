use Rattle.std.proofs.Common.{arith}
use Rattle.table_source_frames_build.specs.KeptViews.{kept_view}
use Rattle.table_source_frames_build.specs.PartBytes.{step_numbers}
use Rattle.table_source_frames_build.specs.StepViews.{numbers_view}
use Rattle.table_source_frames_build.proofs.GroupLemmas.{step_next, steps_end}
use Rattle.table_source_frames_build.proofs.kept.Kept.push_group.Goals as goal

pub loop-step-preserved : goal.loop-step-preserved
loop-step-preserved c =
    step_next (step_numbers (kept_view c.args.self.now) c.args.parts.now.scopes.order.items) c.args.steps.now c.loop-step.step-index
    (record { start = 0; location = 0 }) (numbers_view c.loop-step.before) (numbers_view c.step_numbers-numbers.result) c.loop-step.bytes.items
    c.push_step.new.bytes.items _ c.loop-step-test.true c.step_numbers-numbers.ensures c.in_ok-push_step.ensures c.loop-step.invariant

pub returns : goal.returns
returns c =
    steps_end (step_numbers (kept_view c.args.self.now) c.args.parts.now.scopes.order.items) c.args.steps.now c.loop-step.step-index
    (numbers_view c.loop-step.before) c.loop-step.bytes.items _ (omega arith) c.loop-step.invariant
