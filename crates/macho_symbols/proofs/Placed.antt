-- Entries that are candidates where they have names.
use Rattle.std.proofs.Common.{◌≡◌, ◌==◌, bit_and, nat_lt, ℕ, length, Bool, ◌&&◌, List, ap, ◌∙◌, arith}
use Rattle.macho_symbols.specs.Symbols.{is_candidate, is_in_section, name_in}
use Rattle.macho_symbols.specs.Nlist.{n_type, n_sect, n_value}
use Rattle.macho_symbols.specs.InnerCandidates.{is_placed}

all_four : (a b c n : Bool) → ((a && b && c) && n) ≡ (a && b && c && n)
all_four a b c n = grind arith

-- a candidate is in its place and has a name
pub candidate_parts : (image entry : List ℕ) (placed named : Bool) → placed ≡ is_placed image entry → named ≡ nat_lt 0 (length (name_in image entry))
    → (placed && named) ≡ is_candidate image entry
unfolding is_candidate is_placed
candidate_parts image entry placed named p n = ap (λ b. b && named) p ∙ ap (λ b. is_placed image entry && b) n
    ∙ all_four (bit_and (n_type entry) 0xe0 == 0) (bit_and (n_type entry) 0x0e == 0x0e)
    (is_in_section image (n_sect entry) (n_value entry)) (nat_lt 0 (length (name_in image entry)))
