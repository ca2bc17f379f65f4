use Rattle.std.proofs.Common.{◌≡◌, ◌≤◌, ◌+◌, ◌-◌, drop, length}
use Rattle.test_acceptance.specs.Verdicts.{common_length}
use Rattle.test_acceptance.proofs.verdicts.common_length.Given as goal

abbrev pub invariant-loop-at : goal.invariant-loop-at
invariant-loop-at l = record {
  within : l.at ≤ length l.wanted;
  same : l.at + common_length (drop l.at l.wanted) (drop l.at l.came) ≡ common_length l.wanted l.came;
}

abbrev pub decreases-loop-at : goal.decreases-loop-at
decreases-loop-at l = length l.wanted - l.at
