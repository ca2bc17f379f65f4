use Rattle.std.proofs.Common.{◌≡◌, ◌++◌, flat_map}
use Rattle.dwarf_frame_changes.specs.Turns.{ends_of_tuple}
use Rattle.dwarf_frame_changes.proofs.unit_boundaries.push_tuples.Given as goal

abbrev pub invariant-loop-tuple : goal.invariant-loop-tuple
invariant-loop-tuple l = record {
  can : (goal.iterator-loop-tuple).can_next l.tuple-iterator;
  ends : (goal.iterator-loop-tuple).is_finite l.tuple-iterator;
  so_far : l.starts.items ++ flat_map ends_of_tuple l.tuple-iterator ≡ l.fn.starts.items ++ flat_map ends_of_tuple l.fn.tuples;
}
