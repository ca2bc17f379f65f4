-- Disjoint ranges: definitions of inner functions. No contract of a public function uses them.
use Rattle.std.specs.Prelude.{List, ◌≤◌}
use Rattle.std.specs.List.{AllPairs}
use Rattle.dwarf_ranges.specs.declared.range.CodeRange.{CodeRange}

-- no range ends after the beginning of a later one
abbrev pub AreApart : List CodeRange → Type 0
AreApart ranges = AllPairs (λ range after. range.high ≤ after.low) ranges
