use Rattle.macho_symbols.specs.Symbols.{strings_of}
use Rattle.macho_symbols.specs.InnerCandidates.{IsLeastOrNone, eligible_at}
use Rattle.macho_symbols.proofs.Standing.{IsBelow}
use Rattle.macho_symbols.proofs.scan.Scan.first_eligible.Given as goal

abbrev pub invariant-entries : goal.invariant-entries
invariant-entries l = IsLeastOrNone (strings_of l.self) (IsBelow (eligible_at l.self l.address) l.index) l.best
