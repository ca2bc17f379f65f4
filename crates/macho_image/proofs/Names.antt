-- A name is what stands before the first NUL.
use Rattle.std.proofs.Common.{◌≡◌, ℕ, ◌==◌, List, length, take, sym, ap, Some, None, arith}
use Rattle.std.proofs.lemmas.List.{take_all}
use Rattle.std.proofs.lemmas.List.Sums.{position_or_len_is}
use Rattle.std.specs.List.{before_first, position_or_len}
use Rattle.std.proofs.lemmas.Bool.{false_from_ne_true}
use Rattle.memchr.specs.Find.{IsFirstByte, is_byte}

-- where there is one, what stands before it
pub nul_some : (bytes : List ℕ) (k : ℕ) → IsFirstByte (is_byte 0) bytes (Some k) → take k bytes ≡ before_first (λ b. b == 0) bytes
nul_some bytes k h =
    let first : position_or_len (λ b. b == 0) bytes ≡ k =
    position_or_len_is (λ b. b == 0) bytes k 0 (omega (arith, h.0.high)) (λ j l. false_from_ne_true _ (h.0.before j (omega arith) l)) (λ _. h.1) in
    ap (λ n. take n bytes) (sym first)

-- where there is none, all
pub nul_none : (bytes : List ℕ) → IsFirstByte (is_byte 0) bytes None → bytes ≡ before_first (λ b. b == 0) bytes
nul_none bytes h =
    let first : position_or_len (λ b. b == 0) bytes ≡ length bytes =
    position_or_len_is (λ b. b == 0) bytes (length bytes) 0 (omega arith)
    (λ j l. false_from_ne_true _ (h j (omega arith) l)) (λ l. absurd (omega (arith, l))) in
    sym (take_all (position_or_len (λ b. b == 0) bytes) bytes (omega (arith, first)))

pub ruleset parts_at_nul = (nul_some, nul_none)
