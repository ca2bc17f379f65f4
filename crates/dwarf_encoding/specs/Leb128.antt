-- LEB128: numbers of seven bits a byte, the lowest first (DWARF 5, section 7.6). If a number has more than 64 bits, its
-- low 64 bits count; a negative number is its two's complement of 64 bits.
use Rattle.std.specs.Prelude.{ℕ, zero, suc, Bool, List, [], ◌∷◌, ◌+◌, ◌-◌, ◌*◌, ◌/◌, ◌%◌, ◌^◌, ◌||◌, nat_lt, nat_le}
use Rattle.std.specs.Prelude.{if◌then◌else◌, Option, Some, None}
use Rattle.std.specs.Option.{option_map}

-- the number whose low seven bits are those of a byte, and whose other bits are the low bits of another number
abbrev pub onto : ℕ → ℕ → ℕ
onto byte high = byte % 128 + 128 * (high % 2 ^ 57)

-- the number that begins the bytes, and the bytes after it: a byte below 128 ends the number, and `last` is the value
-- of that byte
unfoldable pub leb128_at : (ℕ → ℕ) → List ℕ → Option (ℕ × List ℕ)
leb128_at last [] = None
leb128_at last (b ∷ bs) =
    if nat_lt b 128 then Some (last b, bs) else option_map (λ x. (onto b x.0, x.1)) (leb128_at last bs)

-- the value of the last byte of an unsigned number is the byte itself
abbrev pub last_unsigned : ℕ → ℕ
last_unsigned byte = byte

-- bit 6 of the last byte of a signed number is the sign, and all bits above it equal it
abbrev pub last_signed : ℕ → ℕ
last_signed byte = if nat_lt byte 64 then byte else 2 ^ 64 - 128 + byte

-- unsigned LEB128
abbrev pub unsigned_leb128_at : List ℕ → Option (ℕ × List ℕ)
unsigned_leb128_at bytes = leb128_at last_unsigned bytes

-- signed LEB128
abbrev pub signed_leb128_at : List ℕ → Option (ℕ × List ℕ)
signed_leb128_at bytes = leb128_at last_signed bytes

-- ---- written

-- the bytes of a number, at most `count` and one more: the low seven bits of the number are the last byte if it fits
-- seven bits; otherwise 128 is added to them, and the bytes of the shifted number follow
unfoldable pub leb128_within : (ℕ → Bool) → (ℕ → ℕ) → ℕ → ℕ → List ℕ
leb128_within fits shifted zero number = number % 128 ∷ []
leb128_within fits shifted (suc count) number =
    if fits number then number % 128 ∷ []
    else (128 + number % 128) ∷ leb128_within fits shifted count (shifted number)

-- whether an unsigned number fits seven bits, and the number shifted by seven bits
abbrev pub fits_unsigned : ℕ → Bool
fits_unsigned number = nat_lt number 128

abbrev pub shifted_unsigned : ℕ → ℕ
shifted_unsigned number = number / 128

-- whether a signed number fits seven bits, and the number shifted by seven bits, which keeps its sign
abbrev pub fits_signed : ℕ → Bool
fits_signed number = nat_lt number 64 || nat_le (2 ^ 64 - 64) number

abbrev pub shifted_signed : ℕ → ℕ
shifted_signed number = number / 128 + (if nat_lt number (2 ^ 63) then 0 else 2 ^ 64 - 2 ^ 57)

-- the bytes of an unsigned number below 2^64, as few as possible
unfoldable pub unsigned_leb128_bytes : ℕ → List ℕ
unsigned_leb128_bytes number = leb128_within fits_unsigned shifted_unsigned 9 number

-- the bytes of a signed number, of which this is the two's complement of 64 bits, as few as possible
unfoldable pub signed_leb128_bytes : ℕ → List ℕ
signed_leb128_bytes number = leb128_within fits_signed shifted_signed 9 number
