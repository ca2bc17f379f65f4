-- Lists that are told element by element.
use Rattle.std.proofs.Common.{◌≡◌, ℕ, zero, suc, arith, ◌+◌, ◌<◌, List, [], ◌∷◌, ◌++◌, length, map, take, get_or, sym, ap, ◌∙◌}
use Rattle.std.specs.List.{AllZip}
use Rattle.std.proofs.lemmas.List.{map-append, take_more}
use Rattle.archive_core.proofs.Members.{pairs_more}

-- one pair more
pub zip_more : {X Y : Type 0} (R : X → Y → Type 0) (xs : List X) (i : ℕ) (x : X) (before after : List Y) (y : Y)
    → i < length xs → x ≡ get_or xs i x → after ≡ before ++ y ∷ []
    → AllZip R (take i xs) before → R x y → AllZip R (take (i + 1) xs) after
zip_more R xs i x before after y lt is grown all one = rw (grown, take_more xs i x lt, ← is) (pairs_more R (take i xs) before x y all one)

-- the same as seen through a view
pub zip_viewed : {X Y Z : Type 0} (R : X → Z → Type 0) (v : Y → Z) (xs : List X) (i : ℕ) (x : X) (before after : List Y)
    (y : Y) → i < length xs → x ≡ get_or xs i x → after ≡ before ++ y ∷ []
    → AllZip R (take i xs) (map v before) → R x (v y) → AllZip R (take (i + 1) xs) (map v after)
zip_viewed R v xs i x before after y lt is grown all one =
    zip_more R xs i x (map v before) (map v after) (v y) lt is (ap (map v) grown ∙ map-append v before (y ∷ [])) all one

-- one row more of those that are made of elements
pub rows_more : {X Y Z : Type 0} (f : X → Z) (v : Y → Z) (xs : List X) (i : ℕ) (x : X) (before after : List Y) (y : Y)
    → i < length xs → x ≡ get_or xs i x → after ≡ before ++ y ∷ [] → v y ≡ f x
    → map v before ≡ map f (take i xs) → map v after ≡ map f (take (i + 1) xs)
rows_more f v xs i x before after y lt is grown same all =
    ap (map v) grown ∙ map-append v before (y ∷ []) ∙ (λ j. all j ++ same j ∷ []) ∙ ap (λ z. map f (take i xs) ++ f z ∷ []) is
    ∙ sym (ap (map f) (take_more xs i x lt) ∙ map-append f (take i xs) (get_or xs i x ∷ []))

-- what is told otherwise of each pair
pub zip_as : {X Y : Type 0} (R S : X → Y → Type 0) (xs : List X) (ys : List Y) → ((x : X) (y : Y) → R x y → S x y) → AllZip R xs ys → AllZip S xs ys
zip_as R S [] [] to all = tt
zip_as R S (x ∷ xs) (y ∷ ys) to all = (to x y all.0, zip_as R S xs ys to all.1)
zip_as R S xs ys to all = absurd all

-- what is told of the pair at a place
pub zip_at : {X Y : Type 0} (R : X → Y → Type 0) (xs : List X) (ys : List Y) (i : ℕ) (d : X) (e : Y) → AllZip R xs ys
    → i < length xs → R (get_or xs i d) (get_or ys i e)
zip_at R [] ys i d e all lt = absurd (omega (arith, lt))
zip_at R (x ∷ xs) [] i d e all lt = absurd all
zip_at R (x ∷ xs) (y ∷ ys) zero d e all lt = all.0
zip_at R (x ∷ xs) (y ∷ ys) (suc i) d e all lt = zip_at R xs ys i d e all.1 (omega (arith, lt))
