use Rattle.macho_symbols.proofs.FaultLemmas.{some_fault, one_fault, no_fault}
use Rattle.macho_symbols.proofs.laws.one_symbol_fault.Goals as goal

pub returns : goal.returns
returns c = record { some = some_fault; one = one_fault; none = no_fault }
