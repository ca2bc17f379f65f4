-- Numbers of hex digits, and the `cpu:` form.
use Rattle.std.proofs.Common.{◌≡◌, ◌<◌, ◌≤◌, ◌+◌, ◌*◌, ◌^◌, ◌&&◌, ℕ, suc, arith, pow-suc, ap, codes, refl, length}
use Rattle.std.proofs.Common.{eq-eqb, ne_eqb, nat_eq, ◌==◌, Bool, true, false, List, Option, None, if◌then◌else◌}
use Rattle.std.proofs.Math.Nat.{pow-le-pow_right}
use Rattle.std.specs.List.{slice_range, starts_with}
use Rattle.std.specs.Str.{bytes_eq}
use Rattle.text_values.specs.Words.{arch_key_of, arch_in_cpu_form, number_of}

-- ---- numbers of hex digits

-- a number of fewer than sixteen hex digits has room for one more
pub has_room : (n i : ℕ) → n < 16 ^ i → i < 16 → n < 16 ^ 15
has_room n i small few =
    let up : 16 ^ i ≤ 16 ^ 15 = pow-le-pow_right {n = 16} (omega arith) {i = i} {j = 15} (omega arith) in
    omega (arith, small, up)

-- one digit more
pub one_more-lt : (n i d : ℕ) → n < 16 ^ i → d < 16 → n * 16 + d < 16 ^ (i + 1)
one_more-lt n i d small digit =
    let step : i + 1 ≡ suc i = omega arith in
    omega (arith, ap (λ k. 16 ^ k) step, pow-suc 16 i)

-- ---- the `cpu:` form

-- what stands after three tests, the second or the third of which fails
second_fails : {X : Type 0} (a b c : Bool) (x : Option X) → b ≡ false → None ≡ (if a && (b && c) then x else None)
second_fails a b c x fails = grind arith

third_fails : {X : Type 0} (a b c : Bool) (x : Option X) → c ≡ false → None ≡ (if a && (b && c) then x else None)
third_fails a b c x fails = grind arith

-- a text of another length, or with another byte before the numbers
pub other_length : (text : List ℕ) → ¬ (length text ≡ 21) → None ≡ arch_in_cpu_form text
other_length text other = rw (ne_eqb (length text) 21 other) refl

pub other_start : (text : List ℕ) → starts_with nat_eq text (codes "cpu:") ≡ false → None ≡ arch_in_cpu_form text
other_start text other = second_fails (length text == 21) _ (bytes_eq (slice_range text 12 15) (codes "/00"))
    (arch_key_of (number_of (slice_range text 4 12)) (number_of (slice_range text 13 21))) other

pub other_middle : (text : List ℕ) → bytes_eq (slice_range text 12 15) (codes "/00") ≡ false → None ≡ arch_in_cpu_form text
other_middle text other = third_fails (length text == 21) (starts_with nat_eq text (codes "cpu:")) _
    (arch_key_of (number_of (slice_range text 4 12)) (number_of (slice_range text 13 21))) other

-- a text of the form
pub two_numbers : (text : List ℕ) → length text ≡ 21 → starts_with nat_eq text (codes "cpu:") ≡ true
    → bytes_eq (slice_range text 12 15) (codes "/00") ≡ true
    → arch_key_of (number_of (slice_range text 4 12)) (number_of (slice_range text 13 21)) ≡ arch_in_cpu_form text
two_numbers text sized start middle = rw (eq-eqb (length text) 21 sized, start, middle) refl
