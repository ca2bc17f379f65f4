use Rattle.std.proofs.Common.{length, ◌-◌}
use Rattle.macho_symbols.proofs.Nuls.{NulPlacesTo}
use Rattle.macho_symbols.proofs.nul_places.collect_nul_places.Given as goal

abbrev pub invariant-loop-index : goal.invariant-loop-index
invariant-loop-index l = NulPlacesTo l.strings l.places.items l.index l.known

abbrev pub decreases-loop-index : goal.decreases-loop-index
decreases-loop-index l = length l.strings - l.index
