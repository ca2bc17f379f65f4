-- How the last byte of a LEB128 number tells it.
use Rattle.std.proofs.Common.{◌≡◌, ℕ, zero, suc, ◌+◌, ◌^◌, ◌<◌, ◌≤◌, List, [], ◌∷◌, length, get_or, take, drop, Some}
use Rattle.std.proofs.Common.{None, refl, ap, ◌∙◌, sym, arith, ◌-◌, add-one}
use Rattle.std.specs.Option.{option_map}
use Rattle.std.proofs.lemmas.List.{drop_more}
use Rattle.std.proofs.lemmas.Bool.{le-ltb, lt-ltb}
use Rattle.dwarf_encoding.specs.Leb128.{onto, leb128_at, last_unsigned, last_signed}
use Rattle.dwarf_encoding.specs.Inner.{onto_high_bits}

-- nothing is below nothing
pub onto_none : (high : ℕ) → onto_high_bits [] high ≡ high
unfolding onto_high_bits
onto_none high = refl

-- one byte more at the front
pub onto_more : (bytes : List ℕ) (n high : ℕ) → 0 < n → n ≤ length bytes → onto_high_bits (drop (n - 1) bytes) high
    ≡ onto (get_or bytes (n - 1) 0) (onto_high_bits (drop n bytes) high)
unfolding onto_high_bits
onto_more bytes n high some within =
    let back : n - 1 + 1 ≡ n = omega arith in
    ap (λ s. onto_high_bits s high) (drop_more bytes (n - 1) 0 (omega arith))
    ∙ ap (λ k. onto (get_or bytes (n - 1) 0) (onto_high_bits (drop k bytes) high)) back

-- no byte of a number is its last
pub goes_on : (last : ℕ → ℕ) (b : ℕ) (bs : List ℕ) → 128 ≤ b → leb128_at last (b ∷ bs) ≡ option_map (λ x. (onto b x.0, x.1)) (leb128_at last bs)
unfolding leb128_at
goes_on last b bs h = rw (le-ltb b 128 h) refl

-- the last byte of a number
pub ends : (last : ℕ → ℕ) (b : ℕ) (bs : List ℕ) → b < 128 → leb128_at last (b ∷ bs) ≡ Some (last b, bs)
unfolding leb128_at
ends last b bs h = rw (lt-ltb b 128 h) refl

-- the bytes up to the first one below 128 are the number
leb_found : (last : ℕ → ℕ) (bytes : List ℕ) (k high : ℕ) → k < length bytes → ((j : ℕ) → j < k → 128 ≤ get_or bytes j 0) → get_or bytes k 0 < 128
    → onto (get_or bytes k 0) high ≡ last (get_or bytes k 0) → leb128_at last bytes ≡ Some (onto_high_bits (take (suc k) bytes) high, drop (suc k) bytes)
unfolding onto_high_bits
leb_found last [] k high h before at same = absurd (omega arith)
leb_found last (b ∷ bs) zero high h before at same = ends last b bs at ∙ ap (λ n. Some (n, bs)) (sym same)
leb_found last (b ∷ bs) (suc k) high h before at same =
    goes_on last b bs (before 0 (omega arith))
    ∙ ap (option_map (λ x. (onto b x.0, x.1))) (leb_found last bs k high (omega arith) (λ j l. before (suc j) (omega arith)) at same)

pub number_found : (last : ℕ → ℕ) (bytes : List ℕ) (k high : ℕ) → k < length bytes → ((j : ℕ) → j < k → 128 ≤ get_or bytes j 0) → get_or bytes k 0 < 128
    → onto (get_or bytes k 0) high ≡ last (get_or bytes k 0) → leb128_at last bytes ≡ Some (onto_high_bits (take (k + 1) bytes) high, drop (k + 1) bytes)
number_found last bytes k high h before at same = rw add-one (leb_found last bytes k high h before at same)

-- where each byte is at least 128 there is no number
pub leb_missing : (last : ℕ → ℕ) (bytes : List ℕ) → ((j : ℕ) → j < length bytes → 128 ≤ get_or bytes j 0) → leb128_at last bytes ≡ None
unfolding leb128_at
leb_missing last [] each = refl
leb_missing last (b ∷ bs) each =
    goes_on last b bs (each 0 (omega arith))
    ∙ ap (option_map (λ x. (onto b x.0, x.1))) (leb_missing last bs (λ j l. each (suc j) (omega arith)))

-- an unsigned number ends with its bits alone
pub ends_unsigned : (b : ℕ) → b < 128 → onto b 0 ≡ last_unsigned b
ends_unsigned b h = omega arith

-- a signed one with its sign
pub ends_positive : (b : ℕ) → b < 64 → onto b 0 ≡ last_signed b
ends_positive b h = rw (lt-ltb b 64 h) (omega arith)

pub ends_negative : (b : ℕ) → b < 128 → 64 ≤ b → onto b (2 ^ 64 - 1) ≡ last_signed b
ends_negative b h low = rw (le-ltb b 64 low) (omega arith)
