-- Pending addresses, and the values of the others.
use Rattle.std.specs.Prelude.{ℕ, true, false, ◌≡◌, ◌≤◌, ◌<◌, Some}
use Rattle.std.specs.Ordering.{nat_cmp}
use Rattle.std.specs.BTreeSet as tree_set
use Rattle.std.specs.BTreeMap as tree_map

-- each pending address from `from` on, below `end`, gets this value and is no longer pending; the others are unchanged
pub record Assigns {T : Type 0} (from end : ℕ) (value : T) (pending : tree_set.BTreeSet ℕ)
    (found : tree_map.BTreeMap ℕ T)
    (left : tree_set.BTreeSet ℕ) (now_found : tree_map.BTreeMap ℕ T) : Type 0 where
  pub none_within : (a : ℕ) → from ≤ a → a < end → tree_set.contains nat_cmp left a ≡ false
  pub was_pending : (a : ℕ) → tree_set.contains nat_cmp left a ≡ true → tree_set.contains nat_cmp pending a ≡ true
  pub given : (a : ℕ) → tree_set.contains nat_cmp pending a ≡ true → tree_set.contains nat_cmp left a ≡ false
      → (from ≤ a) × (a < end) × (tree_map.get nat_cmp now_found a ≡ Some value)
  pub others : (a : ℕ) → tree_set.contains nat_cmp pending a ≡ false
      → tree_map.get nat_cmp now_found a ≡ tree_map.get nat_cmp found a
  pub left_is : (a : ℕ) → tree_set.contains nat_cmp left a ≡ true
      → tree_map.get nat_cmp now_found a ≡ tree_map.get nat_cmp found a
