use Rattle.macho_symbols.proofs.CandidateFacts.{sound_candidate}
use Rattle.macho_symbols.proofs.laws.candidates_are_named.Goals as goal

pub returns : goal.returns
returns c = record { inside = λ image d h. (sound_candidate image d h).inside; name = λ image d h. (sound_candidate image d h).named }
