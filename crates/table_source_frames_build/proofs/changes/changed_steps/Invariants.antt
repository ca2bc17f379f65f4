use Rattle.std.proofs.Common.{◌≡◌, ◌++◌, drop}
use Rattle.table_source_frames_build.specs.StepViews.{changed_after}
use Rattle.table_source_frames_build.proofs.changes.changed_steps.Given as goal

abbrev pub invariant-loop-step : goal.invariant-loop-step
invariant-loop-step l = l.changed.items ++ changed_after l.before (drop l.step-index l.steps) ≡ changed_after 0 l.steps
