use Rattle.std.proofs.Common.{◌≡◌, ◌≤◌, ℕ, length}
use Rattle.std.specs.Option.{option_map, option_or}
use Rattle.std.specs.Ordering.{nat_cmp}
use Rattle.std.specs.BTreeMap as tree_map
use Rattle.dwarf_encoding.specs.Sequences.{placed_from, item_at}
use Rattle.dwarf_encoding.specs.Units.{unit_at, unit_of}
use Rattle.dwarf_encoding.proofs.units.table.Given as goal

abbrev pub invariant-units : goal.invariant-units
invariant-units l = record {
  within : length l.rest ≤ length l.section;
  each : (q : ℕ) → option_or (option_map (λ u. u.now) (tree_map.get nat_cmp l.by_offset q))
      (item_at q (placed_from unit_at (length l.section) l.rest)) ≡ unit_of l.section q;
}

abbrev pub decreases-units : goal.decreases-units
decreases-units l = length l.rest
