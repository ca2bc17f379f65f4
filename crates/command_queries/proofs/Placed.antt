-- Pairs of a list and another one, one after another.
use Rattle.std.proofs.Common.{◌≡◌, ℕ, ◌+◌, ◌<◌, List, [], ◌∷◌, ◌++◌, length, take, get_or, sym, ap, ◌∙◌, subst}
use Rattle.std.specs.List.{AllZip}
use Rattle.std.proofs.lemmas.List.{take_more}
use Rattle.archive_core.proofs.Members.{pairs_more}

-- one more pair
pub placed_more : {X Y : Type 0} (R : X → Y → Type 0) (xs : List X) (i : ℕ) (x : X) (ys next : List Y) (y : Y)
    → i < length xs → x ≡ get_or xs i x → next ≡ ys ++ y ∷ [] → AllZip R (take i xs) ys → R x y
    → AllZip R (take (i + 1) xs) next
placed_more {X} {Y} R xs i x ys next y lt is grown before one =
    let seen : take (i + 1) xs ≡ take i xs ++ x ∷ [] =
    take_more xs i x lt ∙ ap (λ (z : X). take i xs ++ z ∷ []) (sym is) in
    subst (λ (l : List X). AllZip R l next) (sym seen)
    (subst (λ (l : List Y). AllZip R (take i xs ++ x ∷ []) l) (sym grown)
    (pairs_more R (take i xs) ys x y before one))
