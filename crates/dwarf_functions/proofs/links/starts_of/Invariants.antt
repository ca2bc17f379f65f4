use Rattle.std.proofs.Common.{◌≡◌, take}
use Rattle.dwarf_functions.specs.Links.{ends_of_ranges}
use Rattle.dwarf_functions.proofs.links.starts_of.Given as goal

abbrev pub invariant-loop-range : goal.invariant-loop-range
invariant-loop-range l = record {
  so_far : l.starts.items ≡ ends_of_ranges (take l.range-index l.ranges);
}
