-- The first bytes of a file, once more came.
use Rattle.std.proofs.Common.{◌≡◌, ℕ, ◌+◌, ◌-◌, ◌<◌, ◌≤◌, List, [], ◌++◌, length, take, drop, sym, ap, ◌∙◌, min, ap₂, inl, inr}
use Rattle.std.proofs.Common.{append-nil, arith, length-append, length-drop}
use Rattle.std.proofs.lemmas.Bool.{cases_lt}
use Rattle.std.proofs.lemmas.List.{drop_all, take-append-le}
use Rattle.std.proofs.Math.Seq.{take-append-add, take_all, take_at, drop-drop, length-take-le}
use borrow.Rule.Slice.PartMut.{put_mid}
use Rattle.cli_files.specs.Opened.{kept}

-- what comes after the first eight changes nothing
pub kept_full : (xs bs : List ℕ) (read : ℕ) → length xs ≡ 8 → 8 ≤ read → xs ≡ kept xs read bs
kept_full xs bs read long full =
    sym (take_at xs _ 8 long) ∙ ap (λ (l : List ℕ). take 8 (l ++ (bs ++ drop (read + length bs) xs))) (sym (take_all read xs (omega arith)))

-- all that comes is among the first eight
kept_few : (xs bs : List ℕ) (read : ℕ) → length xs ≡ 8 → read + length bs ≤ 8
    → put_mid read (length bs) xs bs ≡ kept xs read bs
kept_few xs bs read long few =
    let front : length (take read xs) ≡ read = length-take-le read xs (omega arith) in
    let all : length (take read xs ++ (bs ++ drop (read + length bs) xs)) ≤ 8 =
    omega (
      arith,
      length-append (take read xs) (bs ++ drop (read + length bs) xs),
      length-append bs (drop (read + length bs) xs),
      length-drop (read + length bs) xs,
    ) in
    ap (λ (l : List ℕ). take read xs ++ (bs ++ l)) (drop-drop (length bs) read xs) ∙ sym (take_all 8 _ all)

-- not all of it is
kept_many : (xs bs : List ℕ) (read : ℕ) → length xs ≡ 8 → read ≤ 8 → 8 ≤ read + length bs
    → put_mid read (8 - read) xs (take (8 - read) bs) ≡ kept xs read bs
kept_many xs bs read long begun many =
    let rest : List ℕ = drop (read + length bs) xs in
    let front : length (take read xs) ≡ read = length-take-le read xs (omega arith) in
    let none : drop (8 - read) (drop read xs) ≡ [] = drop-drop (8 - read) read xs ∙ drop_all (read + (8 - read)) xs (omega arith) in
    let eight : 8 ≡ length (take read xs) + (8 - read) = omega arith in
    let left : take 8 (take read xs ++ (bs ++ rest)) ≡ take read xs ++ take (8 - read) bs =
    ap (λ (n : ℕ). take n (take read xs ++ (bs ++ rest))) eight ∙ take-append-add (take read xs) (bs ++ rest) (8 - read)
    ∙ ap (λ (l : List ℕ). take read xs ++ l) (take-append-le (8 - read) bs rest (omega arith)) in
    ap (λ (l : List ℕ). take read xs ++ (take (8 - read) bs ++ l)) none ∙ ap (λ (l : List ℕ). take read xs ++ l) (append-nil _) ∙ sym left

-- so many of what comes are written after so many bytes
pub kept_taken : (xs bs ys : List ℕ) (read most size : ℕ) → length xs ≡ 8 → read < 8 → most ≡ min (length bs) (8 - read)
    → size ≡ most → ys ≡ take most bs → put_mid read size xs ys ≡ kept xs read bs
kept_taken xs bs ys read most size long begun m s e =
    elim (cases_lt (read + length bs) 8) [
      | inl under ↦
          let all : most ≡ length bs = omega arith in
          ap₂ (λ (n : ℕ) (l : List ℕ). put_mid read n xs l) (s ∙ all) (e ∙ ap (λ (n : ℕ). take n bs) all ∙ take_all (length bs) bs (omega arith))
          ∙ kept_few xs bs read long (omega arith)
      | inr many ↦
          let some : most ≡ 8 - read = omega arith in
          ap₂ (λ (n : ℕ) (l : List ℕ). put_mid read n xs l) (s ∙ some) (e ∙ ap (λ (n : ℕ). take n bs) some)
          ∙ kept_many xs bs read long (omega arith) many
    ]
