use Rattle.std.proofs.Common.{◌≡◌, ◌++◌, drop, map}
use Rattle.table_source_frames.specs.StepGroups.{no_numbers, steps_bytes}
use Rattle.table_source_frames_build.specs.KeptViews.{kept_view}
use Rattle.table_source_frames_build.specs.PartBytes.{step_numbers}
use Rattle.table_source_frames_build.specs.StepViews.{numbers_view}
use Rattle.table_source_frames_build.proofs.kept.Kept.push_group.Given as goal

abbrev pub invariant-loop-step : goal.invariant-loop-step
invariant-loop-step l =
    l.bytes.items ++ steps_bytes (numbers_view l.before) (map (step_numbers (kept_view l.self) l.parts.scopes.order.items) (drop l.step-index l.steps))
    ≡ l.fn.bytes.items ++ steps_bytes no_numbers (map (step_numbers (kept_view l.self) l.parts.scopes.order.items) l.steps)
