use Rattle.std.proofs.Common.{◌≡◌, ◌++◌}
use Rattle.std.specs.Option.{option_map}
use Rattle.dwarf_functions.specs.Asked.{asked_ranges}
use Rattle.dwarf_functions.proofs.functions.push_ranges.Given as goal

abbrev pub invariant-loop-range : goal.invariant-loop-range
invariant-loop-range l = record {
  can : (goal.iterator-loop-range).can_next l.range-iterator;
  ends : (goal.iterator-loop-range).is_finite l.range-iterator;
  so_far : l.all.items ++ asked_ranges (option_map (λ a. a.now) l.asked) l.range-iterator
      ≡ l.fn.all.items ++ asked_ranges (option_map (λ a. a.now) l.asked) l.fn.ranges;
}
