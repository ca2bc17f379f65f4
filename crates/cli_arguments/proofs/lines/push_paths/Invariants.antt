use Rattle.std.proofs.Common.{◌≡◌, ◌++◌, take, map, string_bytes}
use Rattle.cli_arguments.proofs.lines.push_paths.Given as goal

abbrev pub invariant-texts : goal.invariant-texts
invariant-texts l =
    map (λ p. p.now) l.paths.items
    ≡ map (λ p. p.now) l.initial.paths.items ++ map string_bytes (take l.text-index l.texts)
