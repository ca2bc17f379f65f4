-- A text is what stands before the first NUL.
use Rattle.std.proofs.Common.{◌≡◌, refl, ℕ, ◌+◌, List, length, take, drop, sym, ap, Option, Some, None, arith}
use Rattle.std.proofs.lemmas.List.{take_all}
use Rattle.std.proofs.lemmas.List.Sums.{position_or_len_is}
use Rattle.std.specs.List.{before_first, position_or_len}
use Rattle.std.proofs.lemmas.Bool.{false_from_ne_true, lt-ltb, le-ltb}
use Rattle.dwarf_encoding.specs.Text.{is_nul, text_at}
use Rattle.memchr.specs.Find.{IsFirstByte, is_byte}

-- the place of the first NUL
first_nul : (bytes : List ℕ) (k : ℕ) → IsFirstByte (is_byte 0) bytes (Some k) → position_or_len is_nul bytes ≡ k
first_nul bytes k h = position_or_len_is is_nul bytes k 0 (omega (arith, h.0.high)) (λ j l. false_from_ne_true _ (h.0.before j (omega arith) l)) (λ _. h.1)

-- none has one
no_nul : (bytes : List ℕ) → IsFirstByte (is_byte 0) bytes None → position_or_len is_nul bytes ≡ length bytes
no_nul bytes h = position_or_len_is is_nul bytes (length bytes) 0 (omega arith)
    (λ j l. false_from_ne_true _ (h j (omega arith) l)) (λ l. absurd (omega (arith, l)))

-- what stands before the first NUL
pub nul_some : (bytes : List ℕ) (k : ℕ) → IsFirstByte (is_byte 0) bytes (Some k) → take k bytes ≡ before_first is_nul bytes
nul_some bytes k h = ap (λ n. take n bytes) (sym (first_nul bytes k h))

-- all of them, if there is none
pub nul_none : (bytes : List ℕ) → IsFirstByte (is_byte 0) bytes None → bytes ≡ before_first is_nul bytes
nul_none bytes h = sym (take_all (position_or_len is_nul bytes) bytes (omega (arith, no_nul bytes h)))

pub ruleset parts_at_nul = (nul_some, nul_none)

-- the text up to the first NUL
pub text_found : (bytes : List ℕ) (k : ℕ) → IsFirstByte (is_byte 0) bytes (Some k)
    → ◌≡◌ {A = Option (List ℕ × List ℕ)} (Some (take k bytes, drop (k + 1) bytes)) (text_at bytes)
text_found bytes k h =
    let first = first_nul bytes k h in
    rw (lt-ltb (position_or_len is_nul bytes) (length bytes) (omega (arith, first, h.0.high))) (rw first refl)

-- no text
pub text_missing : (bytes : List ℕ) → IsFirstByte (is_byte 0) bytes None → text_at bytes ≡ None
text_missing bytes h = rw (le-ltb (position_or_len is_nul bytes) (length bytes) (omega (arith, no_nul bytes h))) refl
