use Rattle.std.proofs.Common.{◌≡◌, ◌++◌, length}
use Rattle.dwarf_ranges.specs.Aranges.{aranges_of, tuples_from}
use Rattle.dwarf_ranges.proofs.aranges.ArangesIterator.next.Given as goal

abbrev pub invariant-sets : goal.invariant-sets
invariant-sets l = tuples_from l.self-inside.debug_info_offset l.self-inside.tuples.now ++ aranges_of l.self-inside.sets.now ≡ l.fn.self

abbrev pub decreases-sets : goal.decreases-sets
decreases-sets l = length l.self-inside.sets.now
