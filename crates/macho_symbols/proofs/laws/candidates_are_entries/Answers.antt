use Rattle.macho_symbols.proofs.Members.{candidate_from, candidate_to}
use Rattle.macho_symbols.proofs.laws.candidates_are_entries.Goals as goal

pub returns : goal.returns
returns c = record { from = candidate_from; each = candidate_to }
