use Rattle.std.proofs.Common.{◌≡◌, ◌++◌, ℕ, List, length, map}
use Rattle.std.specs.Option.{option_map}
use Rattle.dwarf_encoding.specs.Sequences.{ended}
use Rattle.dwarf_lines.specs.Names.{NameRecord, listed_name_at}
use Rattle.dwarf_lines.specs.NameViews.{name_view}
use Rattle.dwarf_lines.proofs.name_lists.read_listed_names.Given as goal

abbrev pub invariant-names : goal.invariant-names
invariant-names l =
    option_map {U = List NameRecord × List ℕ} (λ (y : List NameRecord × List ℕ).
    (map (λ n. name_view n) l.found.items ++ y.0, y.1)) (ended (listed_name_at l.is_file) l.rest)
    ≡ ended (listed_name_at l.is_file) l.bytes

abbrev pub decreases-names : goal.decreases-names
decreases-names l = length l.rest
