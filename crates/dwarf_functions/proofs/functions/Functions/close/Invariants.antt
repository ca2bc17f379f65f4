use Rattle.std.proofs.Common.{◌≡◌}
use Rattle.dwarf_functions.proofs.ClosingLemmas.{AreClosedFrom}
use Rattle.dwarf_functions.proofs.functions.Functions.close.Given as goal

abbrev pub invariant-opened : goal.invariant-opened
invariant-opened l = record {
  ranges : l.self.ranges ≡ l.fn.self.ranges;
  origins : l.self.origins ≡ l.fn.self.origins;
  so_far : AreClosedFrom l.depth l.left l.opened.items l.fn.self.functions.items l.self.functions.items;
}

abbrev pub decreases-opened : goal.decreases-opened
decreases-opened l = l.left
