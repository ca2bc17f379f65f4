-- Numbers compare as their digits do.
use Rattle.std.proofs.Common.{◌≡◌, ℕ, ◌+◌, ◌*◌, ◌^◌, ◌<◌, List, [], ◌∷◌, length, refl, sym, ap, ◌∙◌, arith, w32, w64}
use Rattle.std.specs.declared.cmp.Ordering.{Ordering}
use Rattle.std.specs.declared.cmp.Ordering.TheVariants.{Equal}
use Rattle.std.specs.Ordering.{nat_cmp, ordering_then}
use Rattle.std.specs.Cmp.Lexicographic.{slice_cmp}
use Rattle.std.specs.Int.{w128, from_be_bytes, to_be_bytes}
use Rattle.std.specs.List.{All, AllByRecursion}
use Rattle.std.proofs.lemmas.Bool.Decides.{nat_tests}
use Rattle.std.proofs.lemmas.List.Elements.{recursion_from_All}
use Rattle.std.proofs.lemmas.Nat.{from_be_bytes-to_be_bytes_4, from_be_bytes-to_be_bytes_8}
use Rattle.archive_core.proofs.Compare.{then_assoc}

-- the number that digits to the base 256 make after another
abbrev read : List ℕ → ℕ → ℕ
read [] p = p
read (x ∷ xs) p = read xs (p * 256 + x)

next_digit : (p q x y : ℕ) → x < 256 → y < 256 → nat_cmp (p * 256 + x) (q * 256 + y) ≡ ordering_then (nat_cmp p q) (nat_cmp x y)
next_digit p q x y a b = grind (arith, nat_tests)

then_none : (r : Ordering) → r ≡ ordering_then r Equal
then_none r = grind arith

in_digits : (xs ys : List ℕ) (p q : ℕ) → length xs ≡ length ys → AllByRecursion (λ b. b < 256) xs → AllByRecursion (λ b. b < 256) ys
    → nat_cmp (read xs p) (read ys q) ≡ ordering_then (nat_cmp p q) (slice_cmp nat_cmp xs ys)
in_digits [] [] p q e a b = then_none (nat_cmp p q)
in_digits [] (y ∷ ys) p q e a b = absurd (omega arith)
in_digits (x ∷ xs) [] p q e a b = absurd (omega arith)
in_digits (x ∷ xs) (y ∷ ys) p q e a b =
    in_digits xs ys (p * 256 + x) (q * 256 + y) (omega arith) a.1 b.1
    ∙ ap (λ r. ordering_then r (slice_cmp nat_cmp xs ys)) (next_digit p q x y a.0 b.0)
    ∙ then_assoc (nat_cmp p q) (nat_cmp x y) (slice_cmp nat_cmp xs ys)

read_alike : (xs ys : List ℕ) (m n : ℕ) → m ≡ read xs 0 → n ≡ read ys 0 → length xs ≡ length ys
    → AllByRecursion (λ b. b < 256) xs → AllByRecursion (λ b. b < 256) ys
    → nat_cmp m n ≡ slice_cmp nat_cmp xs ys
read_alike xs ys m n e f long a b = (λ i. nat_cmp (e i) (f i)) ∙ in_digits xs ys 0 0 long a b

-- sixteen bytes
sixteen : (xs : List ℕ) → length xs ≡ 16 → from_be_bytes w128 xs ≡ read xs 0
sixteen (a0 ∷ a1 ∷ a2 ∷ a3 ∷ a4 ∷ a5 ∷ a6 ∷ a7 ∷ a8 ∷ a9 ∷ a10 ∷ a11 ∷ a12 ∷ a13 ∷ a14 ∷ a15 ∷ []) e = omega arith
sixteen xs e = absurd (omega arith)

pub cmp_sixteen : (xs ys : List ℕ) → length xs ≡ 16 → length ys ≡ 16 → All (λ b. b < 256) xs → All (λ b. b < 256) ys
    → nat_cmp (from_be_bytes w128 xs) (from_be_bytes w128 ys) ≡ slice_cmp nat_cmp xs ys
cmp_sixteen xs ys a b is_a is_b = read_alike xs ys _ _ (sixteen xs a) (sixteen ys b) (a ∙ sym b) (recursion_from_All _ xs is_a) (recursion_from_All _ ys is_b)

-- and a number of 32 bits or of 64
pub cmp_four : (m n : ℕ) → m < 2 ^ 32 → n < 2 ^ 32 → nat_cmp m n ≡ slice_cmp nat_cmp (to_be_bytes w32 m) (to_be_bytes w32 n)
cmp_four m n a b = read_alike (to_be_bytes w32 m) (to_be_bytes w32 n) m n
    (omega (arith, from_be_bytes-to_be_bytes_4 m a)) (omega (arith, from_be_bytes-to_be_bytes_4 n b)) refl (omega arith)
    (omega arith)

pub cmp_eight : (m n : ℕ) → m < 2 ^ 64 → n < 2 ^ 64 → nat_cmp m n ≡ slice_cmp nat_cmp (to_be_bytes w64 m) (to_be_bytes w64 n)
cmp_eight m n a b = read_alike (to_be_bytes w64 m) (to_be_bytes w64 n) m n
    (omega (arith, from_be_bytes-to_be_bytes_8 m a)) (omega (arith, from_be_bytes-to_be_bytes_8 n b)) refl (omega arith)
    (omega arith)
