-- Pending addresses, and the values of the others.
use Rattle.std.specs.Prelude.{ℕ, List, true, false, ◌≡◌, Some}
use Rattle.std.specs.Ordering.{nat_cmp}
use Rattle.std.specs.BTreeSet as tree_set
use Rattle.std.specs.BTreeMap as tree_map
use Rattle.dwarf_ranges.specs.Lists.{in_ranges}
use Rattle.dwarf_ranges.specs.declared.range.CodeRange.{CodeRange}

-- each pending address in one of these ranges gets this value and is no longer pending; the others are unchanged
pub record AssignsRanges (ranges : List CodeRange) (value : ℕ) (pending : tree_set.BTreeSet ℕ)
    (found : tree_map.BTreeMap ℕ ℕ) (left : tree_set.BTreeSet ℕ) (now_found : tree_map.BTreeMap ℕ ℕ) : Type 0 where
  pub none_within : (a : ℕ) → in_ranges a ranges ≡ true → tree_set.contains nat_cmp left a ≡ false
  pub was_pending : (a : ℕ) → tree_set.contains nat_cmp left a ≡ true → tree_set.contains nat_cmp pending a ≡ true
  pub given_within : (a : ℕ) → tree_set.contains nat_cmp pending a ≡ true → tree_set.contains nat_cmp left a ≡ false
      → in_ranges a ranges ≡ true
  pub given : (a : ℕ) → tree_set.contains nat_cmp pending a ≡ true → tree_set.contains nat_cmp left a ≡ false
      → tree_map.get nat_cmp now_found a ≡ Some value
  pub others : (a : ℕ) → tree_set.contains nat_cmp pending a ≡ false
      → tree_map.get nat_cmp now_found a ≡ tree_map.get nat_cmp found a
  pub left_is : (a : ℕ) → tree_set.contains nat_cmp left a ≡ true
      → tree_map.get nat_cmp now_found a ≡ tree_map.get nat_cmp found a
