use Rattle.std.proofs.Common.{◌++◌, ◌∙◌}
use Rattle.table_source_frames.specs.StepGroups.{difference_bytes}
use Rattle.table_source_frames_build.specs.StepViews.{numbers_view}
use Rattle.table_source_frames_build.proofs.GroupLemmas.{step_pushed}
use Rattle.table_source_frames_build.proofs.LoopLemmas.{on_ok_weaker}
use Rattle.table_source_frames_build.proofs.steps.push_step.Goals as goal

pub returns : goal.returns
returns c =
    on_ok_weaker c.push_difference-4.result
    (λ last. step_pushed (numbers_view c.args.before) (numbers_view c.args.step) c.args.bytes.now.items c.push_difference.new.bytes.items
    c.push_difference-2.new.bytes.items c.push_difference-3.new.bytes.items c.push_difference-4.new.bytes.items
    c.in_ok-push_difference.ensures
    (c.in_ok-push_difference-2.ensures
    ∙ (λ i. c.push_difference.new.bytes.items ++ difference_bytes (c.from.ensures i) (c.from-2.ensures i)))
    (c.in_ok-push_difference-3.ensures
    ∙ (λ i. c.push_difference-2.new.bytes.items ++ difference_bytes (c.from-3.ensures i) (c.from-4.ensures i)))
    (last ∙ (λ i. c.push_difference-3.new.bytes.items ++ difference_bytes (c.from-5.ensures i) (c.from-6.ensures i))))
    c.push_difference-4.ensures
