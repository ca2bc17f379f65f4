use Rattle.std.proofs.Common.{◌≡◌, None}
use Rattle.dwarf_ranges.specs.Lists.{ranges_within}
use Rattle.dwarf_ranges.specs.Views.{entry_at}
use Rattle.dwarf_ranges.proofs.range_lists.RangesIterator.next.Given as goal

abbrev pub invariant-entries : goal.invariant-entries
invariant-entries l = record {
  first : l.self-inside.first ≡ None;
  ranges : ranges_within (entry_at l.self-inside.format) l.self-inside.left l.self-inside.base l.self-inside.rest.now ≡ l.fn.self;
}

abbrev pub decreases-entries : goal.decreases-entries
decreases-entries l = l.self-inside.left
