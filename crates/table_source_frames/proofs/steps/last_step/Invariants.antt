use Rattle.std.proofs.Common.{ℕ, length}
use Rattle.table_source_frames.specs.Inner.{AreReadUpTo, step_view}
use Rattle.table_source_frames.proofs.steps.last_step.Given as goal

abbrev pub invariant-steps : goal.invariant-steps
invariant-steps l = (count : ℕ) × AreReadUpTo l.bytes l.address count (step_view l.last) l.rest

abbrev pub decreases-steps : goal.decreases-steps
decreases-steps l = length l.rest
