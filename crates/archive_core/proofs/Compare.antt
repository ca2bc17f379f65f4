-- Lexicographic comparison, part by part.
use Rattle.std.proofs.Common.{◌≡◌, ℕ, true, false, List, [], ◌∷◌, ◌++◌, length, refl, sym, ap, ◌∙◌, arith, length-append}
use Rattle.std.specs.declared.cmp.Ordering.{Ordering}
use Rattle.std.specs.Ordering.{ordering_then, is_ne, nat_cmp}
use Rattle.std.specs.Cmp.Lexicographic.{slice_cmp}
use Rattle.archive_core.specs.Key.{key_bytes}
use Rattle.archive_core.specs.declared.keys.SliceKey.{SliceKey}

-- `then` groups either way
pub then_assoc : (a b c : Ordering) → ordering_then (ordering_then a b) c ≡ ordering_then a (ordering_then b c)
then_assoc a b c = grind arith

-- parts of one length come first
pub slice_cmp-append : (xs ys us vs : List ℕ) → length xs ≡ length ys → slice_cmp nat_cmp (xs ++ us) (ys ++ vs)
    ≡ ordering_then (slice_cmp nat_cmp xs ys) (slice_cmp nat_cmp us vs)
slice_cmp-append [] [] us vs e = refl
slice_cmp-append [] (y ∷ ys) us vs e = absurd (omega arith)
slice_cmp-append (x ∷ xs) [] us vs e = absurd (omega arith)
slice_cmp-append (x ∷ xs) (y ∷ ys) us vs e = ap (ordering_then (nat_cmp x y))
    (slice_cmp-append xs ys us vs (omega arith)) ∙ sym
    (then_assoc (nat_cmp x y) (slice_cmp nat_cmp xs ys) (slice_cmp nat_cmp us vs))

-- texts of three parts, the first two of one length each, compare part by part
pub three_parts : (a b c x y z : List ℕ) → length a ≡ length x → length b ≡ length y
    → slice_cmp nat_cmp (a ++ (b ++ c)) (x ++ (y ++ z))
    ≡ ordering_then (ordering_then (slice_cmp nat_cmp a x) (slice_cmp nat_cmp b y)) (slice_cmp nat_cmp c z)
three_parts a b c x y z e f =
    slice_cmp-append a x (b ++ c) (y ++ z) e
    ∙ ap (ordering_then (slice_cmp nat_cmp a x)) (slice_cmp-append b y c z f)
    ∙ sym (then_assoc (slice_cmp nat_cmp a x) (slice_cmp nat_cmp b y) (slice_cmp nat_cmp c z))

-- a key whose UUID has 16 bytes has 24
pub length_key_bytes : (k : SliceKey) → length k.uuid ≡ 16 → length (key_bytes k) ≡ 24
unfolding key_bytes
length_key_bytes k h = length-append k.uuid _ ∙ omega (arith, h)

-- where the first parts differ the rest does not count, and else it alone
pub then_unequal : (a b : Ordering) → is_ne a ≡ true → ordering_then a b ≡ a
then_unequal a b h = grind arith

pub then_equal : (a b : Ordering) → is_ne a ≡ false → ordering_then a b ≡ b
then_equal a b h = grind arith
