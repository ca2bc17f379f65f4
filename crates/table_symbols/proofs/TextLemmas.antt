-- The bytes of a table, part by part.
use Rattle.std.proofs.Common.{◌≡◌, ℕ, zero, suc, ◌-◌, List, [], ◌∷◌, ◌++◌, length, take, drop, min, ap, ◌∙◌, append_assoc, arith, length-drop}
use Rattle.std.proofs.lemmas.List.{take_all}
use Rattle.table_symbols.specs.Table.{padded, zeros}

pub pushed_four : (old a b c d one two three four : List ℕ) → one ≡ old ++ a → two ≡ one ++ b → three ≡ two ++ c → four
    ≡ three ++ d → four ≡ old ++ (a ++ (b ++ (c ++ d)))
pushed_four old a b c d one two three four p q r s =
    s ∙ (λ i. (r ∙ (λ j. (q ∙ (λ k. p k ++ b)) j ++ c)) i ++ d) ∙ simp append_assoc

pub pushed_five : (old a b c d e one two three four five : List ℕ) → one ≡ old ++ a → two ≡ one ++ b → three ≡ two ++ c → four ≡ three ++ d → five ≡ four ++ e
    → five ≡ old ++ (a ++ (b ++ (c ++ (d ++ e))))
pushed_five old a b c d e one two three four five p q r s t =
    t ∙ (λ h. (s ∙ (λ i. (r ∙ (λ j. (q ∙ (λ k. p k ++ b)) j ++ c)) i ++ d)) h ++ e) ∙ simp append_assoc

zeros-drop : (m n : ℕ) → drop n (zeros m) ≡ zeros (m - n)
unfolding zeros
zeros-drop m zero = let e : m ≡ m - 0 = omega arith in ap zeros e
zeros-drop zero (suc n) = let e : 0 ≡ 0 - suc n = omega arith in ap zeros e
zeros-drop (suc m) (suc n) = let e : m - n ≡ suc m - suc n = omega arith in zeros-drop m n ∙ ap zeros e

-- what follows a name of a section
pub zeros_after : (name : List ℕ) (n : ℕ) → n ≡ min (length name) 16
    → take (16 - n) (drop n (0 ∷ 0 ∷ 0 ∷ 0 ∷ 0 ∷ 0 ∷ 0 ∷ 0 ∷ 0 ∷ 0 ∷ 0 ∷ 0 ∷ 0 ∷ 0 ∷ 0 ∷ 0 ∷ [])) ≡ zeros (16 - length name)
unfolding zeros
zeros_after name n is =
    let e : 16 - n ≡ 16 - length name = omega (arith, is) in
    take_all (16 - n) (drop n (zeros 16)) (omega (arith, length-drop n (zeros 16))) ∙ zeros-drop 16 n ∙ ap zeros e

pub padded_pushed : (old name end one two : List ℕ) → one ≡ old ++ name → two ≡ one ++ end → end ≡ zeros (16 - length name) → two ≡ old ++ padded name
padded_pushed old name end one two p q e = q ∙ (λ i. p i ++ e i) ∙ append_assoc old name (zeros (16 - length name))
