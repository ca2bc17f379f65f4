use Rattle.std.proofs.Common.{◌≡◌, ℕ, true, false, None}
use Rattle.std.specs.Ordering.{nat_cmp}
use Rattle.std.specs.BTreeSet as tree_set
use Rattle.std.specs.BTreeMap as tree_map
use Rattle.dwarf_ranges.specs.Inner.{first_tuple}
use Rattle.dwarf_ranges.proofs.one_pass.assign_all.Given as goal

abbrev pub invariant-loop-tuple : goal.invariant-loop-tuple
invariant-loop-tuple l = record {
  can : (goal.iterator-loop-tuple).can_next l.tuple-iterator;
  ends : (goal.iterator-loop-tuple).is_finite l.tuple-iterator;
  left : (a : ℕ) → tree_set.contains nat_cmp l.pending a ≡ true → first_tuple a l.tuple-iterator ≡ first_tuple a l.fn.tuples;
  was_pending : (a : ℕ) → tree_set.contains nat_cmp l.pending a ≡ true → tree_set.contains nat_cmp l.fn.pending a ≡ true;
  blank : (a : ℕ) → tree_set.contains nat_cmp l.pending a ≡ true → tree_map.get nat_cmp l.found a ≡ None;
  found : (a : ℕ) → tree_set.contains nat_cmp l.fn.pending a ≡ true → tree_set.contains nat_cmp l.pending a ≡ false
      → tree_map.get nat_cmp l.found a ≡ first_tuple a l.fn.tuples;
}
