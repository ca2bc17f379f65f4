use Rattle.std.proofs.Common.{◌≡◌, take, map, string_bytes}
use Rattle.cli_arguments.proofs.spelled_values.copies.Given as goal

abbrev pub invariant-texts : goal.invariant-texts
invariant-texts l = map string_bytes l.copies.items ≡ map (λ s. s.now) (take l.text-index l.texts)
