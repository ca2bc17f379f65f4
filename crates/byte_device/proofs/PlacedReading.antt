-- Bytes that are taken piece by piece.
use Rattle.std.proofs.Common.{◌≡◌, ℕ, ◌+◌, ◌≤◌, subst, List, ◌++◌, length, take, drop, Option, Some, None, sym, ap, ◌∙◌, length-append}
use Rattle.std.proofs.lemmas.List.{length-take-le, drop-drop}
use Rattle.std.proofs.Math.Seq.{take-add}
use Rattle.byte_device.proofs.Taken.{take-behind}
use Rattle.byte_device.specs.Places.{Stands, TakenAt}

-- the first bytes stand at a place, and after them n more do
pub stands_more : (whole : Option (List ℕ)) (at n : ℕ) (front piece : List ℕ) → n ≤ length piece → Stands whole at front
    → TakenAt whole (at + length front) n piece → Stands whole at (front ++ take n piece)
stands_more None at n front piece bound first next = tt
stands_more (Some all) at n front piece bound first next =
    let long : length (front ++ take n piece) ≡ length front + n = length-append front (take n piece)
    ∙ ap (λ (k : ℕ). length front + k) (length-take-le n piece bound) in
    ap (λ (k : ℕ). take k (drop at all)) long
    ∙ take-add (length front) n (drop at all)
    ∙ ap (λ (t : List ℕ). t ++ take n (drop (length front) (drop at all))) first
    ∙ ap (λ (t : List ℕ). front ++ t) (ap (take n) (drop-drop (length front) at all) ∙ sym next.bytes)

-- so that they stand there with those before
pub stands_past : (whole now : Option (List ℕ)) (place : ℕ) (old xs piece after rest : List ℕ) (at len n : ℕ)
    → at ≤ length xs → at + n ≤ len → n ≤ length piece → take at xs ≡ take at old → Stands whole place (take at old)
    → now ≡ whole → TakenAt now (place + at) n piece
    → Stands whole place (take (at + n) (take len (take at xs ++ (piece ++ after) ++ rest)))
stands_past whole now place old xs piece after rest at len n in_front in_len in_piece front first keeps next =
    let long : length (take at xs) ≡ at = length-take-le at xs in_front in
    subst (Stands whole place) (sym (take-behind xs piece after rest at len n in_front in_len in_piece))
    (stands_more whole place n (take at xs) piece in_piece (subst (Stands whole place) (sym front) first)
    (subst (λ (k : ℕ). TakenAt whole (place + k) n piece) (sym long)
    (subst (λ (w : Option (List ℕ)). TakenAt w (place + at) n piece) keeps next)))
