use Rattle.std.proofs.Common.{◌≡◌, ◌++◌, take, map}
use Rattle.cli_files.specs.LazyInputs.{told}
use Rattle.cli_files.specs.InputStates.{AreWaiting}
use Rattle.cli_files.proofs.inputs.make_inputs.Given as goal

abbrev pub invariant-paths : goal.invariant-paths
invariant-paths g l =
    (l.asked.entries ≡ l.initial.asked.entries ++ map (λ p. p.now) (take l.path-index l.paths))
    × AreWaiting told (map (λ p. p.now) (take l.path-index l.paths)) l.inputs.items
