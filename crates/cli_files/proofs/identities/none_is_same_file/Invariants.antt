use Rattle.std.proofs.Common.{◌≡◌, [], take, map}
use Rattle.cli_files.specs.Identities.{AreApart}
use Rattle.cli_files.proofs.identities.none_is_same_file.Given as goal

abbrev pub invariant-inputs : goal.invariant-inputs
invariant-inputs g l =
    l.initial.calls.entries ≡ [] → AreApart l.path (map (λ p. p.now) (take l.input-index l.inputs)) l.calls.entries
