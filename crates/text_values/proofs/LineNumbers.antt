-- The numbers of the lines that count.
use Rattle.std.proofs.Common.{◌≡◌, sym, subst, arith, ℕ, ◌+◌, ◌<◌, ◌≤◌, ◌^◌, Bool, List, [], ◌∷◌, length, filter, ◌==◌, Bor, All, IfOk, Result}
use Rattle.std.specs.List.{AllByRecursion, enumerate_from}
use Rattle.std.proofs.lemmas.Bool.{cond_both}
use Rattle.std.proofs.lemmas.Result.{IfOk-weaker}
use Rattle.std.proofs.lemmas.List.Elements.{All-from_recursion}
use Rattle.std.proofs.lemmas.List.Splits.{length-slice_split}
use Rattle.std.proofs.lemmas.List.Sums.{count_by-le-length}
use Rattle.text_values.specs.Lines.{Line, counting, counts, lines, seen}

below : (test : ℕ × Line → Bool) (n : ℕ) (xs : List Line) (m : ℕ) → n + length xs ≤ m → AllByRecursion (λ l. l.0 < m) (filter test (enumerate_from n xs))
below test n [] m h = tt
below test n (x ∷ xs) m h =
    let rest = below test (n + 1) xs m (omega arith) in
    cond_both (test (n, x)) _ _ (AllByRecursion (λ l. l.0 < m)) (λ _. (omega arith, rest)) (λ _. rest)

few_lines : (bytes : List ℕ) → length (lines bytes) ≤ length bytes + 1
few_lines bytes = omega (arith, length-slice_split (λ b. b == 10) bytes, count_by-le-length (λ b. b == 10) bytes)

unseen : (m : ℕ) (found : List (ℕ × Bor (List ℕ))) → AllByRecursion (λ l. l.0 < m) (seen found) → AllByRecursion (λ l. l.0 < m) found
unseen m [] h = tt
unseen m (x ∷ found) h = (h.0, unseen m found h.1)

-- the lines that were found stand after no more lines than there can be
places : (bytes : List ℕ) (found : List (ℕ × Bor (List ℕ))) → length bytes < 2 ^ 63 → seen found ≡ counting bytes → All (λ l. l.0 < 2 ^ 63) found
places bytes found h is =
    let m = 2 ^ 63 in
    let all = below (λ l. counts l.1) 0 (lines bytes) m (omega (arith, few_lines bytes, h)) in
    All-from_recursion (λ l. l.0 < m) found (unseen m found (subst (AllByRecursion (λ l. l.0 < m)) (sym is) all))

-- the same of what a call gives
pub few_found : {V E : Type 0} (items : V → List (ℕ × Bor (List ℕ))) (bytes : List ℕ) (found : Result V E) → length bytes < 2 ^ 63
    → IfOk found (λ v. seen (items v) ≡ counting bytes) → IfOk found (λ v. All (λ l. l.0 < 2 ^ 63) (items v))
few_found items bytes found h is = IfOk-weaker found _ _ (λ v. places bytes (items v) h) is
