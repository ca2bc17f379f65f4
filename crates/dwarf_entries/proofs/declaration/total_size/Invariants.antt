use Rattle.std.proofs.Common.{◌≡◌, ◌+◌, drop}
use Rattle.std.specs.Option.{option_map}
use Rattle.dwarf_entries.specs.Specifications.{total_size}
use Rattle.dwarf_entries.proofs.declaration.total_size.Given as goal

abbrev pub invariant-loop-pair : goal.invariant-loop-pair
invariant-loop-pair l = option_map (λ m. l.size + m) (total_size (drop l.pair-index l.pairs)) ≡ total_size l.pairs
