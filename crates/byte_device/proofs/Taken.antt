-- A buffer whose first bytes are those that were taken from a source.
use Rattle.std.proofs.Common.{◌≡◌, ℕ, ◌+◌, ◌≤◌, List, ◌++◌, length, take, Option, sym, ap, ◌∙◌, append_assoc, arith, length-append}
use Rattle.std.proofs.lemmas.List.{take-take, take-append-le, length-take-le, length-take}
use Rattle.std.proofs.Math.Seq.{take-append-add}
use Rattle.std.specs.Io.KnownBytes.{Consumes}
use Rattle.byte_device.proofs.Known.{Consumes-then}

-- `piece` was written after the first `at` bytes of a buffer of `len` bytes
pub length-behind : (xs piece after rest : List ℕ) (at len n : ℕ) → at ≤ length xs → at + n ≤ len → n ≤ length piece
    → at + n ≤ length (take len (take at xs ++ (piece ++ after) ++ rest))
length-behind xs piece after rest at len n in_front in_len in_piece =
    omega (
      arith,
      length-take len (take at xs ++ (piece ++ after) ++ rest),
      length-append (take at xs ++ (piece ++ after)) rest,
      length-append (take at xs) (piece ++ after),
      length-append piece after,
      length-take at xs,
    )

pub take-behind : (xs piece after rest : List ℕ) (at len n : ℕ) → at ≤ length xs → at + n ≤ len → n ≤ length piece
    → take (at + n) (take len (take at xs ++ (piece ++ after) ++ rest)) ≡ take at xs ++ take n piece
take-behind xs piece after rest at len n in_front in_len in_piece =
    let front = take at xs in
    take-take (at + n) len (front ++ (piece ++ after) ++ rest) in_len
    ∙ ap (λ (t : List ℕ). take (at + n) t) (append_assoc front (piece ++ after) rest ∙ ap (λ (t : List ℕ). front ++ t) (append_assoc piece after rest))
    ∙ ap (λ (k : ℕ). take (k + n) (front ++ (piece ++ (after ++ rest)))) (sym (length-take-le at xs in_front))
    ∙ take-append-add front (piece ++ (after ++ rest)) n
    ∙ ap (λ (t : List ℕ). front ++ t) (take-append-le n piece (after ++ rest) in_piece)

-- the first bytes were taken, and then n bytes of the piece: the first bytes of the buffer are again those that were taken
pub Consumes-behind : (a b c : Option (List ℕ)) (old xs piece after rest : List ℕ) (at len n : ℕ) → at ≤ length xs
    → at + n ≤ len → n ≤ length piece → take at xs ≡ take at old → Consumes a b (take at old)
    → Consumes b c (take n piece)
    → Consumes a c (take (at + n) (take len (take at xs ++ (piece ++ after) ++ rest)))
Consumes-behind a b c old xs piece after rest at len n in_front in_len in_piece front first then =
    rw (take-behind xs piece after rest at len n in_front in_len in_piece, front) (Consumes-then a b c (take at old) (take n piece) first then)
