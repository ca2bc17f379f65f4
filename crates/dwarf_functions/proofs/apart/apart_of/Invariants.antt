use Rattle.std.proofs.Common.{take}
use Rattle.dwarf_functions.proofs.ApartLemmas.{AreTaken}
use Rattle.dwarf_functions.proofs.apart.apart_of.Given as goal

abbrev pub invariant-loop-range : goal.invariant-loop-range
invariant-loop-range l = record {
  taken : AreTaken (take l.range-index l.range-items) l.apart.items l.reached;
}
