-- Candidates that can stand for an address.
use Rattle.std.proofs.Common.{◌*◌, ◌≡◌, ℕ, ◌+◌, ◌<◌, ◌≤◌, true, List, drop, ap, ◌∙◌, arith, slice_index_or, Fits, w8, lit<, Contains}
use Rattle.std.proofs.Math.Facts.{Fits-lt-pow}
use Rattle.std.proofs.lemmas.List.{get_or-take, get_or-drop}
use Rattle.std.proofs.lemmas.Bool.Decides.{nat_tests}
use Rattle.std.proofs.lemmas.Option.{cond_some}
use Rattle.macho_symbols.specs.Symbols.{Tuple, is_in_section, table_of, is_candidate, tuple_in, candidate_in, candidates, entry_of}
use Rattle.macho_symbols.specs.Nearest.{is_eligible, IsEligible}
use Rattle.macho_symbols.proofs.Members.{candidate_from}

-- what it takes to stand for an address
stands_in : (image : List ℕ) (address : ℕ) (c : Tuple) → is_eligible image address c ≡ true → (c.value ≤ address)
    × (is_in_section image c.sect address ≡ true)
unfolding is_eligible
stands_in image address c h = grind (arith, nat_tests)

-- it is not above the address
pub stands_below : (image : List ℕ) (address : ℕ) (c : Tuple) → IsEligible image address c → c.value ≤ address
stands_below image address c h = (stands_in image address c h.1).0

-- before the first section none stands for an address
pub none_at_start : (image : List ℕ) (address : ℕ) (c : Tuple) → IsEligible image address c × (c.sect ≤ 0) → ⊥
unfolding is_in_section
none_at_start image address c h =
    let none : c.sect ≡ 0 = omega (arith, h.1) in
    cc ((stands_in image address c h.0.1).1, ap (λ n. is_in_section image n address) none)

-- a section number is a byte
pub numbers_fit : (image : List ℕ) → ((i : ℕ) → Fits w8 (slice_index_or image i 0)) → (c : Tuple) → Contains (candidates image) c → c.sect < 256
unfolding candidate_in tuple_in
numbers_fit image fits c h =
    let g = candidate_from image c h in
    let is = cond_some (is_candidate image (entry_of image g.0)) (tuple_in image (entry_of image g.0)) c g.2 in
    let from = (table_of image).symoff + 16 * g.0 in
    let at = get_or-take 16 (drop from image) 5 0 (lit< tt) ∙ get_or-drop from image 5 0 in
    omega (arith, ap (λ t. t.sect) is.1, at, Fits-lt-pow (fits (from + 5)))
