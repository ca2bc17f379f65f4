-- What is sorted by what is made of it.
use Rattle.std.proofs.Common.{◌+◌, ◌<◌, Bool, List, [], ◌∷◌, length, map, ◌∙◌, arith}
use Rattle.std.specs.List.Sorted.{IsSortedBy}
use Rattle.std.proofs.lemmas.List.{get_or-map, length-map}

pub sorted_map : {X Y : Type 0} (f : X → Y) (less : Y → Y → Bool) (xs : List X) → IsSortedBy (λ a b. less (f a) (f b)) xs → IsSortedBy less (map f xs)
sorted_map f less [] h = λ k d low high. absurd (omega (arith, high))
sorted_map f less (x ∷ xs) h = λ k d low high.
    let next : k + 1 < length (x ∷ xs) = omega (arith, high, length-map (x ∷ xs) f) in
    let this : k < length (x ∷ xs) = omega (arith, next) in
    (λ i. less (get_or-map f (x ∷ xs) (k + 1) x d next i) (get_or-map f (x ∷ xs) k x d this i)) ∙ h k x low next
