use Rattle.std.proofs.Common.{◌≡◌, ℕ, true, false, Some}
use Rattle.std.specs.Ordering.{nat_cmp}
use Rattle.std.specs.BTreeSet as tree_set
use Rattle.std.specs.BTreeMap as tree_map
use Rattle.dwarf_ranges.specs.Lists.{in_ranges}
use Rattle.dwarf_ranges.proofs.assigned.assign_ranges.Given as goal

abbrev pub invariant-loop-range : goal.invariant-loop-range
invariant-loop-range l = record {
  can : (goal.iterator-loop-range).can_next l.range-iterator;
  ends : (goal.iterator-loop-range).is_finite l.range-iterator;
  rest : (a : ℕ) → tree_set.contains nat_cmp l.pending a ≡ true → in_ranges a l.range-iterator ≡ in_ranges a l.fn.ranges;
  was_pending : (a : ℕ) → tree_set.contains nat_cmp l.pending a ≡ true → tree_set.contains nat_cmp l.fn.pending a ≡ true;
  given_within : (a : ℕ) → tree_set.contains nat_cmp l.fn.pending a ≡ true → tree_set.contains nat_cmp l.pending a ≡ false → in_ranges a l.fn.ranges ≡ true;
  given : (a : ℕ) → tree_set.contains nat_cmp l.fn.pending a ≡ true → tree_set.contains nat_cmp l.pending a ≡ false
      → tree_map.get nat_cmp l.found a ≡ Some l.value;
  others : (a : ℕ) → tree_set.contains nat_cmp l.fn.pending a ≡ false → tree_map.get nat_cmp l.found a ≡ tree_map.get nat_cmp l.fn.found a;
  left_is : (a : ℕ) → tree_set.contains nat_cmp l.pending a ≡ true → tree_map.get nat_cmp l.found a ≡ tree_map.get nat_cmp l.fn.found a;
}
