use Rattle.std.proofs.Common.{◌≡◌, ◌++◌, ◌-◌, ℕ, List, map}
use Rattle.std.specs.Option.{option_map}
use Rattle.dwarf_encoding.specs.Sequences.{counted}
use Rattle.dwarf_lines.specs.Names.{NameRecord, entry_at}
use Rattle.dwarf_lines.specs.NameViews.{name_view}
use Rattle.dwarf_lines.proofs.name_entries.counted_entries.Given as goal

abbrev pub invariant-loop-index : goal.invariant-loop-index
invariant-loop-index l =
    option_map {U = List NameRecord × List ℕ} (λ (y : List NameRecord × List ℕ).
    (map (λ n. name_view n) l.found.items ++ y.0, y.1)) (counted (entry_at l.format) (l.count - l.index) l.rest)
    ≡ counted (entry_at l.format) l.count l.bytes
