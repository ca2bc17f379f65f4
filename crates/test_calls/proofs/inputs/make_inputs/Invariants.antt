use Rattle.std.proofs.Common.{take, map}
use Rattle.cli_files.specs.LazyInputs.{told}
use Rattle.cli_files.specs.InputStates.{AreWaiting}
use Rattle.test_calls.proofs.inputs.make_inputs.Given as goal

abbrev pub invariant-paths : goal.invariant-paths
invariant-paths l = AreWaiting told (map (λ p. p.now) (take l.path-index l.paths)) l.inputs.items
