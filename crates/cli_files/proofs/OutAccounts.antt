-- What is known of OUT.
use Rattle.std.proofs.Common.{ℕ, ◌<◌, List, length, get_or, map, subst, sym, Contains}
use Rattle.std.proofs.lemmas.List.{get_or-map, length-map}

-- a list has what a function makes of an element of another
pub has_made : {X : Type 0} (f : X → List ℕ) (xs : List X) (i : ℕ) (d : X) → i < length xs
    → Contains (map f xs) (f (get_or xs i d))
has_made f xs i d lt =
    (i, subst (λ n. i < n) (sym (length-map xs f)) lt, get_or-map f xs i d (f (get_or xs i d)) lt)
