use Rattle.std.proofs.Common.{◌≡◌, ◌++◌}
use Rattle.dwarf_frame_changes.specs.Turns.{ends_of}
use Rattle.dwarf_frame_changes.proofs.unit_boundaries.push_ranges.Given as goal

abbrev pub invariant-loop-range : goal.invariant-loop-range
invariant-loop-range l = record {
  can : (goal.iterator-loop-range).can_next l.range-iterator;
  ends : (goal.iterator-loop-range).is_finite l.range-iterator;
  so_far : l.starts.items ++ ends_of l.range-iterator ≡ l.fn.starts.items ++ ends_of l.fn.ranges;
}
