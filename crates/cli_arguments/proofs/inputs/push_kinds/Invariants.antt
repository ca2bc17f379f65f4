use Rattle.std.proofs.Common.{◌≡◌, ◌++◌, map, take, string_bytes}
use Rattle.cli_arguments.proofs.inputs.push_kinds.Given as goal

-- one kind for each path that is passed
abbrev pub invariant-paths : goal.invariant-paths
invariant-paths l = l.kinds.items ≡ l.initial.kinds.items ++ map (λ _. l.kind) (map string_bytes (take l.index l.paths))
