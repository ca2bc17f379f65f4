use Rattle.std.proofs.Common.{ℕ, ◌<◌, slice_index_or}
use Rattle.test_acceptance.specs.Verdicts.{IsAsItStands}
use Rattle.test_acceptance.specs.declared.verdicts.Step.{Step}
use Rattle.test_acceptance.proofs.verdicts.all_as_they_stand.Given as goal

abbrev pub invariant-loop-step : goal.invariant-loop-step
invariant-loop-step l = (k : ℕ) (d : Step) → k < l.step-index → IsAsItStands (slice_index_or l.steps k d)
