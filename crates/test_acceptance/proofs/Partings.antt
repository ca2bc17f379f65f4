-- Where two texts part, seen from a place up to which they are the same.
use Rattle.std.proofs.Common.{◌≡◌, ◌<◌, ◌≤◌, ◌+◌, ◌==◌, ◌∙◌, ℕ, List, [], ◌∷◌, length, drop, get_or, false, ap, refl, eq-eqb}
use Rattle.std.proofs.lemmas.List.{drop_all}
use Rattle.std.proofs.lemmas.List.Sums.{common_prefix_len-drop_yes, common_prefix_len-drop_no}
use Rattle.test_acceptance.specs.Verdicts.{common_length}

pub same_at : (w c : List ℕ) (i x y : ℕ) → i < length w → i < length c → get_or w i x ≡ get_or c i y
    → common_length (drop i w) (drop i c) ≡ 1 + common_length (drop (i + 1) w) (drop (i + 1) c)
same_at w c i x y in_w in_c same = common_prefix_len-drop_yes (λ a b. a == b) w c i x y in_w in_c (eq-eqb _ _ same)

pub other_at : (w c : List ℕ) (i x y : ℕ) → i < length w → i < length c → (get_or w i x == get_or c i y) ≡ false
    → common_length (drop i w) (drop i c) ≡ 0
other_at w c i x y in_w in_c other = common_prefix_len-drop_no (λ a b. a == b) w c i x y in_w in_c other

nothing_came : (w : List ℕ) → common_length w [] ≡ 0
nothing_came [] = refl
nothing_came (_ ∷ _) = refl

pub wanted_ends : (w c : List ℕ) (i : ℕ) → length w ≤ i → common_length (drop i w) (drop i c) ≡ 0
wanted_ends w c i ends = ap (λ rest. common_length rest (drop i c)) (drop_all i w ends)

pub came_ends : (w c : List ℕ) (i : ℕ) → length c ≤ i → common_length (drop i w) (drop i c) ≡ 0
came_ends w c i ends = ap (λ rest. common_length (drop i w) rest) (drop_all i c ends) ∙ nothing_came (drop i w)
