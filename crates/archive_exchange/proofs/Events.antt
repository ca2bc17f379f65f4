-- The lines of events, one more at a time.
use Rattle.std.proofs.Common.{◌≡◌, ℕ, ◌+◌, ◌<◌, List, [], ◌∷◌, ◌++◌, codes, length, get_or, take, refl, sym, ap, ◌∙◌, append_assoc, arith, add-one}
use Rattle.std.proofs.lemmas.List.{append-nil, length-take}
use Rattle.std.proofs.Math.Seq.{take-suc}
use Rattle.std.specs.Fmt.{decimal}
use Rattle.archive_exchange.specs.declared.outcome.Outcome.{Outcome}
use Rattle.archive_exchange.specs.EventLines.{event_lines, outcome_text}
use Rattle.text_reports.specs.Report.{line}

abbrev one_line : List (List ℕ) → ℕ → Outcome → List ℕ
one_line messages number outcome = line (decimal number ++ codes " " ++ outcome_text messages outcome)

lines_push : (messages : List (List ℕ)) (number : ℕ) (xs : List Outcome) (x : Outcome)
    → event_lines messages number (xs ++ x ∷ []) ≡ event_lines messages number xs ++ one_line messages (number + length xs) x
unfolding event_lines
lines_push messages number [] x =
    append-nil (one_line messages number x) ∙ ap (λ (n : ℕ). one_line messages n x) (omega arith)
lines_push messages number (y ∷ ys) x =
    ap (λ (rest : List ℕ). one_line messages number y ++ rest) (lines_push messages (number + 1) ys x)
    ∙ sym (append_assoc (one_line messages number y) (event_lines messages (number + 1) ys) (one_line messages (number + 1 + length ys) x))
    ∙ ap (λ (n : ℕ). (one_line messages number y ++ event_lines messages (number + 1) ys) ++ one_line messages n x) (omega arith)

pub no_lines : (messages : List (List ℕ)) (text : List ℕ) → text ≡ text ++ event_lines messages 0 []
unfolding event_lines
no_lines messages text = sym (append-nil text)

regrouped : (text number said : List ℕ) → (text ++ (number ++ codes " ")) ++ line said ≡ text ++ line (number ++ codes " " ++ said)
regrouped text number said =
    append_assoc text (number ++ codes " ") (line said)
    ∙ ap (λ t. text ++ t) (sym (append_assoc (number ++ codes " ") said (10 ∷ [])))

pub one_more : (messages : List (List ℕ)) (i : ℕ) (outcomes : List Outcome) (x : Outcome) (before text numbered now : List ℕ)
    → i < length outcomes → x ≡ get_or outcomes i x
    → text ≡ before ++ event_lines messages 0 (take i outcomes)
    → numbered ≡ text ++ (decimal i ++ codes " ")
    → now ≡ numbered ++ line (outcome_text messages x)
    → now ≡ before ++ event_lines messages 0 (take (i + 1) outcomes)
one_more messages i outcomes x before text numbered now lt is text_is numbered_is now_is =
    let front : take (i + 1) outcomes ≡ take i outcomes ++ x ∷ [] = rw (add-one, take-suc outcomes i x lt, ← is) refl in
    let at : 0 + length (take i outcomes) ≡ i = omega (arith, length-take i outcomes) in
    let lines = event_lines messages 0 (take i outcomes) in
    rw (
      now_is,
      numbered_is,
      text_is,
      regrouped (before ++ lines) (decimal i) (outcome_text messages x),
      front,
      lines_push messages 0 (take i outcomes) x,
      at,
    ) (append_assoc before lines (one_line messages i x))
