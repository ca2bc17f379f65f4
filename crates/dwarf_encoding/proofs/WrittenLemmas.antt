-- A LEB128 number is read from the bytes that it is written as.
use Rattle.std.proofs.Common.{◌≡◌, ℕ, zero, suc, ◌+◌, ◌-◌, ◌*◌, ◌/◌, ◌%◌, ◌^◌, ◌<◌, ◌≤◌, ◌⊎◌, inl, inr, List, [], ◌∷◌, ◌++◌, length, Some, Bool, true}
use Rattle.std.proofs.Common.{false, refl, ap, ◌∙◌, sym, arith, append_assoc, subst}
use Rattle.std.specs.Option.{option_map}
use Rattle.std.proofs.Math.Nat.{pow-succ'}
use Rattle.std.proofs.lemmas.Bool.{cases_Bool, cases_lt, le-leb, le-ltb, leb-true, lt-ltb, ltb-true, or_cases, or_left, or_right}
use Rattle.dwarf_encoding.specs.Leb128.{onto, leb128_at, last_unsigned, last_signed, leb128_within, fits_unsigned}
use Rattle.dwarf_encoding.specs.Leb128.{shifted_unsigned, fits_signed, shifted_signed}
use Rattle.dwarf_encoding.proofs.Leb128Lemmas.{ends, goes_on}

-- where a number fits seven bits, its low bits are its only byte
pub ends_there : (fits : ℕ → Bool) (shifted : ℕ → ℕ) (count number : ℕ) → fits number ≡ true → leb128_within fits shifted count number ≡ number % 128 ∷ []
unfolding leb128_within
ends_there fits shifted zero number e = refl
ends_there fits shifted (suc count) number e = rw e refl

-- where it does not, more bytes follow
pub goes_on_there : (fits : ℕ → Bool) (shifted : ℕ → ℕ) (count number : ℕ) → fits number ≡ false
    → leb128_within fits shifted (suc count) number ≡ (128 + number % 128) ∷ leb128_within fits shifted count (shifted number)
unfolding leb128_within
goes_on_there fits shifted count number e = rw e refl

-- there are at most so many bytes
pub few_bytes : (fits : ℕ → Bool) (shifted : ℕ → ℕ) (count number : ℕ) → length (leb128_within fits shifted count number) ≤ suc count
unfolding leb128_within
few_bytes fits shifted zero number = omega arith
few_bytes fits shifted (suc count) number = elim (cases_Bool (fits number)) [
  | inl e ↦ rw (ends_there fits shifted (suc count) number e) (omega arith)
  | inr e ↦ rw (goes_on_there fits shifted count number e) (omega (arith, few_bytes fits shifted count (shifted number)))
]

-- a byte before the bytes of the shifted number
read_on : (last : ℕ → ℕ) (number above : ℕ) (bytes rest : List ℕ) → leb128_at last bytes ≡ Some (above, rest) → onto (128 + number % 128) above ≡ number
    → leb128_at last ((128 + number % 128) ∷ bytes) ≡ Some (number, rest)
read_on last number above bytes rest read same =
    goes_on last (128 + number % 128) bytes (omega arith)
    ∙ ap (option_map (λ x. (onto (128 + number % 128) x.0, x.1))) read ∙ ap (λ n. Some (n, rest)) same

power_more : (count : ℕ) → 128 ^ suc count ≡ 128 * 128 ^ count
power_more count = pow-succ' 128 count

-- ---- unsigned

onto_unsigned : (number : ℕ) → number < 2 ^ 64 → onto (128 + number % 128) (shifted_unsigned number) ≡ number
onto_unsigned number fits = omega arith

unsigned_last : (number : ℕ) (rest : List ℕ) → number < 128 → leb128_at last_unsigned (number % 128 ∷ rest) ≡ Some (number, rest)
unsigned_last number rest small =
    ends last_unsigned (number % 128) rest (omega arith) ∙ ap (λ n. Some (n, rest)) (let e : number % 128 ≡ number = omega arith in e)

below_more : (number room : ℕ) → number < 128 * (128 * room) → number / 128 < 128 * room
below_more number room h = omega arith

pub unsigned_back : (count number : ℕ) (rest : List ℕ) → number < 2 ^ 64 → number < 128 * 128 ^ count
    → leb128_at last_unsigned (leb128_within fits_unsigned shifted_unsigned count number ++ rest) ≡ Some (number, rest)
unsigned_back zero number rest fits small =
    rw (ends_there fits_unsigned shifted_unsigned zero number (lt-ltb number 128 small)) (unsigned_last number rest small)
unsigned_back (suc count) number rest fits small = elim (cases_lt number 128) [
  | inl lt ↦ rw (ends_there fits_unsigned shifted_unsigned (suc count) number (lt-ltb number 128 lt)) (unsigned_last number rest lt)
  | inr ge ↦
      rw (goes_on_there fits_unsigned shifted_unsigned count number (le-ltb number 128 ge))
      (read_on last_unsigned number (shifted_unsigned number) (leb128_within fits_unsigned shifted_unsigned count (shifted_unsigned number) ++ rest) rest
      (unsigned_back count (number / 128) rest (omega arith)
      (below_more number (128 ^ count) (subst (λ p. number < 128 * p) (power_more count) small))) (onto_unsigned number fits))
]

-- ---- signed

-- a number with so many values above 0, and as many below
abbrev IsSignedBelow : ℕ → ℕ → Type 0
IsSignedBelow number half = (number < half) ⊎ (2 ^ 64 ≤ number + half)

onto_signed : (number : ℕ) → number < 2 ^ 64 → onto (128 + number % 128) (shifted_signed number) ≡ number
onto_signed number fits = elim (cases_lt number (2 ^ 63)) [
  | inl lt ↦ rw (lt-ltb number (2 ^ 63) lt) (omega arith)
  | inr ge ↦ rw (le-ltb number (2 ^ 63) ge) (omega arith)
]

fits_signed_by : (number : ℕ) → number < 2 ^ 64 → IsSignedBelow number 64 → fits_signed number ≡ true
fits_signed_by number fits small = elim small [
  | inl lt ↦ or_left _ _ (lt-ltb number 64 lt)
  | inr ge ↦ or_right _ _ (le-leb (2 ^ 64 - 64) number (omega arith))
]

signed_last : (number : ℕ) (rest : List ℕ) → number < 2 ^ 64 → IsSignedBelow number 64 → leb128_at last_signed (number % 128 ∷ rest) ≡ Some (number, rest)
signed_last number rest fits small =
    ends last_signed (number % 128) rest (omega arith) ∙ ap (λ n. Some (n, rest)) (elim small [
      | inl lt ↦ let low : number % 128 < 64 = omega arith in rw (lt-ltb (number % 128) 64 low) (omega arith)
      | inr ge ↦ let high : 64 ≤ number % 128 = omega arith in rw (le-ltb (number % 128) 64 high) (omega arith)
    ])

shifted_below : (number half : ℕ) → number < 2 ^ 64 → IsSignedBelow number (128 * half)
    → (shifted_signed number < 2 ^ 64) × IsSignedBelow (shifted_signed number) half
shifted_below number half fits small = elim (cases_lt number (2 ^ 63)) [
  | inl lt ↦ rw (lt-ltb number (2 ^ 63) lt) (omega arith, inl (elim small [ inl less ↦ omega arith | inr more ↦ omega arith ]))
  | inr ge ↦ rw (le-ltb number (2 ^ 63) ge) (omega arith, inr (elim small [ inl less ↦ omega arith | inr more ↦ omega arith ]))
]

below_by_fits : (number : ℕ) → fits_signed number ≡ true → IsSignedBelow number 64
below_by_fits number e = elim (or_cases _ _ e) [
  | inl low ↦ inl (ltb-true number 64 low)
  | inr high ↦ let most : 2 ^ 64 - 64 ≤ number = leb-true (2 ^ 64 - 64) number high in inr (omega arith)
]

signed_more : (number room : ℕ) → IsSignedBelow number (64 * (128 * room)) → IsSignedBelow number (128 * (64 * room))
signed_more number room small = elim small [ inl less ↦ inl (omega arith) | inr more ↦ inr (omega arith) ]

pub signed_back : (count number : ℕ) (rest : List ℕ) → number < 2 ^ 64 → IsSignedBelow number (64 * 128 ^ count)
    → leb128_at last_signed (leb128_within fits_signed shifted_signed count number ++ rest) ≡ Some (number, rest)
signed_back zero number rest fits small =
    rw (ends_there fits_signed shifted_signed zero number (fits_signed_by number fits small)) (signed_last number rest fits small)
signed_back (suc count) number rest fits small = elim (cases_Bool (fits_signed number)) [
  | inl e ↦ rw (ends_there fits_signed shifted_signed (suc count) number e) (signed_last number rest fits (below_by_fits number e))
  | inr e ↦
      let shifted = shifted_below number (64 * 128 ^ count) fits
      (signed_more number (128 ^ count) (subst (λ p. IsSignedBelow number (64 * p)) (power_more count) small)) in
      rw (goes_on_there fits_signed shifted_signed count number e)
      (read_on last_signed number (shifted_signed number) (leb128_within fits_signed shifted_signed count (shifted_signed number) ++ rest) rest
      (signed_back count (shifted_signed number) rest shifted.0 shifted.1) (onto_signed number fits))
]

pub signed_of_64_bits : (number : ℕ) (rest : List ℕ) → number < 2 ^ 64
    → leb128_at last_signed (leb128_within fits_signed shifted_signed 9 number ++ rest) ≡ Some (number, rest)
signed_of_64_bits number rest fits = signed_back 9 number rest fits (inl (omega arith))

-- ---- pushed

pub pushed_more : (fits : ℕ → Bool) (shifted : ℕ → ℕ) (before whole : List ℕ) (counter number : ℕ) → counter < 10 → fits number ≡ false
    → before ++ leb128_within fits shifted (10 - counter) number ≡ whole
    → (before ++ (128 + number % 128) ∷ []) ++ leb128_within fits shifted (10 - (counter + 1)) (shifted number) ≡ whole
pushed_more fits shifted before whole counter number inside e is =
    let one : 10 - counter ≡ suc (10 - (counter + 1)) = omega arith in
    append_assoc before ((128 + number % 128) ∷ []) (leb128_within fits shifted (10 - (counter + 1)) (shifted number))
    ∙ ap (λ t. before ++ t) (sym (ap (λ k. leb128_within fits shifted k number) one ∙ goes_on_there fits shifted (10 - (counter + 1)) number e)) ∙ is

pub pushed_last : (fits : ℕ → Bool) (shifted : ℕ → ℕ) (before whole : List ℕ) (counter number : ℕ) → 10 ≤ counter
    → before ++ leb128_within fits shifted (10 - counter) number ≡ whole → before ++ number % 128 ∷ [] ≡ whole
unfolding leb128_within
pushed_last fits shifted before whole counter number past is =
    let none : 10 - counter ≡ 0 = omega arith in
    ap (λ k. before ++ leb128_within fits shifted k number) (sym none) ∙ is

pub pushed_early : (fits : ℕ → Bool) (shifted : ℕ → ℕ) (before whole : List ℕ) (counter number : ℕ) → fits number ≡ true
    → before ++ leb128_within fits shifted (10 - counter) number ≡ whole → before ++ number % 128 ∷ [] ≡ whole
pushed_early fits shifted before whole counter number e is =
    ap (λ t. before ++ t) (sym (ends_there fits shifted (10 - counter) number e)) ∙ is
