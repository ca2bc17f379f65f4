-- The table of the units of a section: definitions of inner functions. No contract of a public function uses them.
use Rattle.std.specs.Prelude.{ℕ, List, ◌≡◌}
use Rattle.std.specs.Option.{option_map}
use Rattle.std.specs.Ordering.{nat_cmp}
use Rattle.std.specs.Borrow.{Bor}
use Rattle.std.specs.BTreeMap as tree_map
use Rattle.dwarf_encoding.specs.Units.{unit_of}

-- the table has each unit at its offset
pub record AreUnits (section : List ℕ) (by_offset : tree_map.BTreeMap ℕ (Bor (List ℕ))) : Type 0 where
  pub each : (offset : ℕ) → option_map (λ u. u.now) (tree_map.get nat_cmp by_offset offset) ≡ unit_of section offset
