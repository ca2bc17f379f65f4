use Rattle.std.proofs.Common.{◌≡◌, ◌++◌, map, take}
use Rattle.macho_symbols.proofs.turns.push_values.Given as goal

abbrev pub invariant-loop-candidate : goal.invariant-loop-candidate
invariant-loop-candidate l = l.turns.items ≡ l.fn.turns.items ++ map (λ c. c.value) (take l.candidate-index l.candidates)
