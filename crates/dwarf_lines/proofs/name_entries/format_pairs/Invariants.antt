use Rattle.std.proofs.Common.{◌≡◌, ◌++◌, ◌-◌, ℕ, List}
use Rattle.std.specs.Option.{option_map}
use Rattle.dwarf_encoding.specs.Sequences.{counted}
use Rattle.dwarf_lines.specs.Names.{format_pair_at}
use Rattle.dwarf_lines.proofs.name_entries.format_pairs.Given as goal

abbrev pub invariant-loop-index : goal.invariant-loop-index
invariant-loop-index l =
    option_map {U = List (ℕ × ℕ) × List ℕ} (λ (y : List (ℕ × ℕ) × List ℕ). (l.found.items ++ y.0, y.1)) (counted format_pair_at (l.count - l.index) l.rest)
    ≡ counted format_pair_at l.count l.bytes
