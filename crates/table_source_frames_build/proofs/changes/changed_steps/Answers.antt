use Rattle.std.proofs.Common.{◌++◌, List, ◌+◌, drop, sym, ap, ◌∙◌, arith}
use Rattle.std.proofs.lemmas.List.{append-nil, at_drop_all}
use Rattle.table_source_frames_build.specs.StepViews.{changed_after}
use Rattle.table_source_frames_build.specs.declared.step.Step.{Step}
use Rattle.table_source_frames_build.proofs.LoopLemmas.{changed_next, changed_not}
use Rattle.table_source_frames_build.proofs.changes.changed_steps.Goals as goal
use Rattle.table_source_frames_build.proofs.changes.changed_steps.Goals.{then-step-before+in_ok-push, else-step-before}

pub loop-step-preserved : goal.loop-step-preserved
loop-step-preserved c = elim c.if-step-before.branch [
  | then-step-before+in_ok-push w ↦
      changed_next c.args.steps.now c.loop-step.step-index (record { start = 0; location = 0 })
      c.loop-step.changed.items c.if-step-before.changed.items (changed_after 0 c.args.steps.now) c.loop-step.before
      c.if-step-before.before
      c.loop-step-test.true w.if-step-before.true (ap (λ v. v.items) w.changed-is ∙ w.in_ok-push.ensures.items) w.before-is c.loop-step.invariant
  | else-step-before w ↦
      ap (λ v. v.items ++ changed_after c.if-step-before.before (drop (c.loop-step.step-index + 1) c.args.steps.now)) w.changed-is
      ∙ ap (λ b. c.loop-step.changed.items ++ changed_after b (drop (c.loop-step.step-index + 1) c.args.steps.now)) w.before-is
      ∙ changed_not c.args.steps.now c.loop-step.step-index (record { start = 0; location = 0 })
      c.loop-step.changed.items (changed_after 0 c.args.steps.now) c.loop-step.before c.loop-step-test.true
      w.if-step-before.false c.loop-step.invariant
]

pub returns : goal.returns
unfolding changed_after
returns c =
    sym (append-nil c.loop-step.changed.items)
    ∙ ap (λ (l : List Step). c.loop-step.changed.items ++ l)
    (sym (at_drop_all (changed_after c.loop-step.before) c.args.steps.now c.loop-step.step-index (omega arith)))
    ∙ c.loop-step.invariant
