use Rattle.macho_symbols.specs.InnerCandidates.{AreCandidatesBelow}
use Rattle.macho_symbols.proofs.scan.Scan.candidates.Given as goal

abbrev pub invariant-entries : goal.invariant-entries
invariant-entries l = AreCandidatesBelow l.self l.index l.candidates.items
