-- The numbers of the first line that counts, and of those after it.
use Rattle.std.proofs.Common.{◌≡◌, subst, arith, ℕ, ◌+◌, ◌<◌, ◌^◌, suc, List, ◌∷◌, get_or, Bor, All}

pub first_place : (found : List (ℕ × Bor (List ℕ))) (first : ℕ × Bor (List ℕ)) (further : List (ℕ × Bor (List ℕ)))
    → found ≡ first ∷ further → All (λ l. l.0 < 2 ^ 63) found → first.0 + 1 < 2 ^ 64
first_place found first further parted all =
    let each = subst (All (λ l. l.0 < 2 ^ 63)) parted all in
    let one : first.0 < 2 ^ 63 = each 0 first (omega arith) in
    omega (arith, one)

pub further_places : (found : List (ℕ × Bor (List ℕ))) (first : ℕ × Bor (List ℕ)) (further : List (ℕ × Bor (List ℕ)))
    → found ≡ first ∷ further → All (λ l. l.0 < 2 ^ 63) found → All (λ l. l.0 + 1 < 2 ^ 64) further
further_places found first further parted all k d h =
    let each = subst (All (λ l. l.0 < 2 ^ 63)) parted all in
    let one : (get_or further k d).0 < 2 ^ 63 = each (suc k) d (omega arith) in
    omega (arith, one)
