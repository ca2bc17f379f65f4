use Rattle.std.proofs.Common.{ℕ, ◌<◌, slice_index_or}
use Rattle.test_acceptance.specs.Verdicts.{CameAsItStands}
use Rattle.test_acceptance.specs.declared.verdicts.Outcome.{Outcome}
use Rattle.test_acceptance.proofs.verdicts.exit_code.Given as goal

abbrev pub invariant-loop-outcome : goal.invariant-loop-outcome
invariant-loop-outcome l = (k : ℕ) (d : Outcome) → k < l.outcome-index → CameAsItStands (slice_index_or l.outcomes k d)
