-- Hex digits, as they are printed.
use Rattle.std.proofs.Common.{◌≡◌, ◌∙◌, ℕ, zero, suc, ◌+◌, ◌-◌, ◌/◌, ◌%◌, ◌^◌, ◌<◌, List, [], ◌∷◌, ◌++◌, length}
use Rattle.std.proofs.Common.{replicate, refl, sym, ap, arith, rules, false, true, pow-suc, ◌==◌, append_assoc, nat_lt}
use Rattle.std.proofs.lemmas.Fmt.{hex_byte}
use Rattle.std.proofs.lemmas.List.{append-nil, replicate_more}
use Rattle.std.specs.Fmt.{digits, digits_onto, digit_glyph, padded_integral, format_spec, char_count}
use Rattle.std.proofs.lemmas.Str.{IsUtf8-from_ascii}
use Rattle.std.proofs.lemmas.Str.Ascii.{IsAscii-nil, IsAscii-cons}
use Rattle.std.proofs.lemmas.Bool.{and_parts, ltb-true}
use Rattle.std.specs.List.{list_all}
use Rattle.std.specs.Str.{IsAscii, IsUtf8}
use Rattle.hex.specs.Hex.{encode_lower, lower_digits}
use Rattle.hex.proofs.HexLemmas.{IsAscii-encode_with}
use Rattle.text_values.specs.Words.{hex_digits}

last : (k n : ℕ) (acc : List ℕ) → n / 16 ≡ 0 → digits_onto (suc k) 16 false n acc ≡ digit_glyph false (n % 16) ∷ acc
last k n acc e = rw e refl

not_zero : (n q : ℕ) → n ≡ suc q → (n == 0) ≡ false
not_zero n q e = search (rules, arith, e)

more : (k n q : ℕ) (acc : List ℕ) → n / 16 ≡ suc q → digits_onto (suc k) 16 false n acc ≡ digits_onto k 16 false (n / 16) (digit_glyph false (n % 16) ∷ acc)
more k n q acc e = rw (not_zero (n / 16) q e) refl

zeros : (w : ℕ) → hex_digits w 0 ≡ replicate w 48
unfolding hex_digits
zeros zero = refl
zeros (suc w) = let count : w + 1 ≡ suc w = omega arith in rw (zeros w) (replicate_more w 48 ∙ ap (λ m. replicate m 48) count)

-- the digits with zeros in front, before acc, are the hex digits of the width before acc
abbrev IsPadded : ℕ → ℕ → ℕ → List ℕ → Type 0
IsPadded w k n acc = replicate (suc w + length acc - length (digits_onto k 16 false n acc)) 48 ++ digits_onto k 16 false n acc ≡ hex_digits (suc w) n ++ acc

step : (k n : ℕ) (acc : List ℕ) → ((w : ℕ) → n / 16 < 16 ^ suc w → w < k → IsPadded w k (n / 16) (digit_glyph false (n % 16) ∷ acc))
    → (w q : ℕ) → n / 16 ≡ q → n < 16 ^ suc w → w < suc k → IsPadded w (suc k) n acc
unfolding hex_digits
step k n acc next w zero e small deep =
    let count : suc w + length acc - suc (length acc) ≡ w = omega arith in
    rw (last k n acc e, e, zeros w) (ap (λ m. replicate m 48 ++ digit_glyph false (n % 16) ∷ acc) count
    ∙ sym (append_assoc (replicate w 48) (digit_glyph false (n % 16) ∷ []) acc))
step k n acc next zero (suc q) e small deep = absurd (omega arith)
step k n acc next (suc w) (suc q) e small deep =
    let here : n / 16 < 16 ^ suc w = omega (arith, pow-suc 16 (suc w)) in
    let count : suc (suc w) + length acc ≡ suc w + suc (length acc) = omega arith in
    rw (more k n q acc e, count) (next w here (omega arith) ∙ sym (append_assoc (hex_digits (suc w) (n / 16)) (digit_glyph false (n % 16) ∷ []) acc))

pad : (k w n : ℕ) (acc : List ℕ) → n < 16 ^ suc w → w < k → IsPadded w k n acc
pad zero w n acc small deep = absurd (omega arith)
pad (suc k) w n acc small deep = step k n acc (λ w. pad k w (n / 16) (digit_glyph false (n % 16) ∷ acc)) w (n / 16) refl small deep

to_width : (w : ℕ) (ds : List ℕ)
    → padded_integral (format_spec 32 0 4 w (2 ^ 64 - 1)) false [] ds ≡ replicate (w - length ds) 48 ++ ds
unfolding padded_integral char_count
to_width w ds = let none : w - length ds - 0 - 0 ≡ w - length ds = omega arith in rw (append-nil ds, none) refl

onto : (n : ℕ) → digits 16 false n ≡ digits_onto 64 16 false n []
unfolding digits
onto n = refl

pub padded_hex8 : (n : ℕ) → n < 2 ^ 32 → padded_integral (format_spec 32 0 4 8 (2 ^ 64 - 1)) false [] (digits 16 false n) ≡ hex_digits 8 n
padded_hex8 n small =
    to_width 8 (digits 16 false n) ∙ rw (onto n) (pad 64 7 n [] (omega arith) (omega arith) ∙ append-nil _)

pub padded_hex16 : (n : ℕ) → n < 2 ^ 64 → padded_integral (format_spec 32 0 4 16 (2 ^ 64 - 1)) false [] (digits 16 false n) ≡ hex_digits 16 n
padded_hex16 n small =
    to_width 16 (digits 16 false n) ∙ rw (onto n) (pad 64 15 n [] (omega arith) (omega arith) ∙ append-nil _)

pub padded_hex2 : (n : ℕ) → n < 2 ^ 8 → padded_integral (format_spec 32 0 4 2 (2 ^ 64 - 1)) false [] (digits 16 false n) ≡ hex_digits 2 n
unfolding hex_digits
padded_hex2 n small = let high : n / 16 % 16 ≡ n / 16 = omega arith in hex_byte false n small ∙ rw high refl

ascii_by_test : (bs : List ℕ) → list_all (λ b. nat_lt b 128) bs ≡ true → IsAscii bs
ascii_by_test [] _ = IsAscii-nil
ascii_by_test (b ∷ rest) h =
    let parts = and_parts (nat_lt b 128) (list_all (λ b. nat_lt b 128) rest) h in
    IsAscii-cons b rest (ltb-true b 128 parts.0) (ascii_by_test rest parts.1)

-- hex digits are text
pub is_text : (bytes text : List ℕ) → text ≡ encode_lower bytes → IsUtf8 text
is_text bytes text e = rw e (IsUtf8-from_ascii (encode_lower bytes) (IsAscii-encode_with lower_digits bytes (ascii_by_test lower_digits refl)))
