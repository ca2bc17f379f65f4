-- What is known of each candidate.
use Rattle.std.proofs.Common.{◌≡◌, ℕ, ◌<◌, true, List, length, subst, arith, Contains}
use Rattle.std.proofs.lemmas.Bool.Decides.{nat_tests}
use Rattle.std.proofs.lemmas.Option.{cond_some}
use Rattle.macho_symbols.specs.Symbols.{Tuple, is_candidate, tuple_in, candidate_in, candidates, is_in_section, entry_of}
use Rattle.macho_symbols.proofs.Members.{candidate_from}

-- in its section, with a name
pub record IsSound (image : List ℕ) (c : Tuple) : Type 0 where
  pub inside : is_in_section image c.sect c.value ≡ true
  pub named : 0 < length c.name

sound_entry : (image entry : List ℕ) → is_candidate image entry ≡ true → IsSound image (tuple_in image entry)
unfolding is_candidate tuple_in
sound_entry image entry h = grind (arith, nat_tests)

pub sound_candidate : (image : List ℕ) (c : Tuple) → Contains (candidates image) c → IsSound image c
unfolding candidate_in
sound_candidate image c h =
    let g = candidate_from image c h in
    let is = cond_some (is_candidate image (entry_of image g.0)) (tuple_in image (entry_of image g.0)) c g.2 in
    subst (IsSound image) is.1 (sound_entry image (entry_of image g.0) is.0)
