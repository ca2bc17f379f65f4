use Rattle.std.proofs.Common.{◌≡◌, ◌≤◌, ◌<◌, ℕ, true, false, Some}
use Rattle.std.specs.Ordering.{nat_cmp}
use Rattle.std.specs.BTreeSet as tree_set
use Rattle.std.specs.BTreeMap as tree_map
use Rattle.dwarf_asked_addresses.proofs.pending.assign_within.Given as goal

abbrev pub invariant-addresses : goal.invariant-addresses
invariant-addresses g l = record {
  was_pending : (a : ℕ) → tree_set.contains nat_cmp l.pending a ≡ true → tree_set.contains nat_cmp l.fn.pending a ≡ true;
  given : (a : ℕ) → tree_set.contains nat_cmp l.fn.pending a ≡ true → tree_set.contains nat_cmp l.pending a ≡ false
      → (l.from ≤ a) × (a < l.end) × (tree_map.get nat_cmp l.found a ≡ Some l.value);
  others : (a : ℕ) → tree_set.contains nat_cmp l.fn.pending a ≡ false → tree_map.get nat_cmp l.found a ≡ tree_map.get nat_cmp l.fn.found a;
  left_is : (a : ℕ) → tree_set.contains nat_cmp l.pending a ≡ true → tree_map.get nat_cmp l.found a ≡ tree_map.get nat_cmp l.fn.found a;
}

abbrev pub decreases-addresses : goal.decreases-addresses
decreases-addresses g l = tree_set.btree_set_len l.pending
