-- Two files that give the same bytes, piece by piece.
use Rattle.std.proofs.Common.{◌≡◌, ◌≢◌, ◌∙◌, ℕ, ◌+◌, ◌-◌, ◌≤◌, Bool, true, false, ◌&&◌, Result, Ok, Err, List, [], ◌∷◌}
use Rattle.std.proofs.Common.{◌++◌, length, refl, ap, sym, append_assoc, append-nil, arith, inl, inr, subst}
use Rattle.std.proofs.lemmas.List.{length-append}
use Rattle.std.proofs.lemmas.Bool.{and_parts}
use Rattle.std.specs.List.{concat}
use Rattle.archive_records.proofs.Puts.{concat-push}
use Rattle.std.specs.Prelude.{IfOk, OnErr, String}
use Rattle.std.specs.IoError.{error_kind}
use Rattle.std.specs.declared.io.Error.{Error}
use Rattle.std.specs.declared.io.ErrorKind.{ErrorKind}
use Rattle.std.specs.declared.io.ErrorKind.TheVariants.{NotFound, OutOfMemory}
use Rattle.cli_files.specs.declared.found.Found.{Found}
use Rattle.cli_files.specs.FileCalls.{FileCall, Finds, Gives, are_probes, failed, is_probe, led, linked}
use Rattle.cli_files.specs.Publishing.{AreOther, both_give}

-- Behind the first calls both files at these paths gave the same pieces, so many bytes but for those that are left.
pub record GaveSame (draft target : List ℕ) (count left : ℕ) (first calls : List FileCall) : Type 0 where
  pub pieces : List (List ℕ)
  pub whole : length (concat pieces) + left ≡ count
  pub calls_are : calls ≡ first ++ both_give draft target pieces

pub probes_append : (xs ys : List FileCall) → are_probes xs ≡ true → are_probes ys ≡ true → are_probes (xs ++ ys) ≡ true
probes_append [] ys one two = two
probes_append (call ∷ xs) ys one two =
    let parts = and_parts (is_probe call) (are_probes xs) one in
    let rest = probes_append xs ys parts.1 two in grind (arith, parts.0, rest)

-- it holds of an error, whatever came
pub on_err : {T E : Type 0} (r : Result T E) {P : Type 0} → P → OnErr r P
on_err (Ok done) holds = tt
on_err (Err error) holds = holds

-- what follows where the answer is no
pub if_false : {E : Type 0} (r : Result Bool E) {X Y : Type 0} → (X → Y) → IfOk r (λ same. same ≡ false → X)
    → IfOk r (λ same. same ≡ false → Y)
if_false (Ok same) then none = λ no. then (none no)
if_false (Err error) then none = tt

-- two files give one piece each
pub two_given : (p q a b : List ℕ) (old mid new : List FileCall) → mid ≡ old ++ Gives p a ∷ []
    → new ≡ mid ++ Gives q b ∷ [] → new ≡ old ++ Gives p a ∷ Gives q b ∷ []
two_given p q a b old mid new one two =
    two ∙ ap (λ cs. cs ++ Gives q b ∷ []) one ∙ append_assoc old (Gives p a ∷ []) (Gives q b ∷ [])

-- of files at the same paths
pub at_paths : (p q d t a b : List ℕ) (old new : List FileCall) → new ≡ old ++ Gives p a ∷ Gives q b ∷ [] → p ≡ d → q ≡ t
    → new ≡ old ++ Gives d a ∷ Gives t b ∷ []
at_paths p q d t a b old new is first second =
    is ∙ ap (λ x. old ++ Gives x a ∷ Gives q b ∷ []) first ∙ ap (λ y. old ++ Gives d a ∷ Gives y b ∷ []) second

-- more was only asked
pub still_probes : (old more new : List FileCall) → new ≡ old ++ more → are_probes more ≡ true → are_probes old ≡ true
    → are_probes new ≡ true
still_probes old more new is more_asked asked = ap are_probes is ∙ probes_append old more asked more_asked

pub failed_probe : (path : List ℕ) (kind : ErrorKind) → is_probe (failed path kind) ≡ true
failed_probe path NotFound = refl
failed_probe path OutOfMemory = refl
failed_probe path kind = refl

pub linked_probes : (path : List ℕ) (is_link : Bool) → are_probes (linked path is_link) ≡ true
linked_probes path true = refl
linked_probes path false = refl

pub led_probes : {A : Type 0} (path : List ℕ) (answer : Result (String A) Error) → are_probes (led path answer) ≡ true
led_probes path (Ok target) = refl
led_probes path (Err error) = ap (λ b. b && true) (failed_probe path (error_kind error))

pub both_probes : (draft target : List ℕ) (pieces : List (List ℕ)) → are_probes (both_give draft target pieces) ≡ true
both_probes draft target [] = refl
both_probes draft target (piece ∷ pieces) = both_probes draft target pieces

both_more : (draft target piece : List ℕ) (pieces : List (List ℕ))
    → both_give draft target (pieces ++ piece ∷ [])
    ≡ both_give draft target pieces ++ Gives draft piece ∷ Gives target piece ∷ []
both_more draft target piece [] = refl
both_more draft target piece (p ∷ pieces) =
    ap (λ calls. Gives draft p ∷ Gives target p ∷ calls) (both_more draft target piece pieces)

pub gave_none : (draft target : List ℕ) (count : ℕ) (calls : List FileCall) → GaveSame draft target count count calls calls
gave_none draft target count calls =
    record { pieces = []; whole = omega arith; calls_are = sym (append-nil calls) }

pub gave_more : (draft target piece : List ℕ) (count left size : ℕ) (first old new : List FileCall)
    → GaveSame draft target count left first old → length piece ≡ size → size ≤ left
    → new ≡ old ++ Gives draft piece ∷ Gives target piece ∷ [] → GaveSame draft target count (left - size) first new
gave_more draft target piece count left size first old new gave long fits is =
    let joined = ap length (concat-push gave.pieces piece) ∙ length-append (concat gave.pieces) piece in
    let whole = gave.whole in record {
      pieces = gave.pieces ++ piece ∷ [];
      whole = omega (arith, joined, whole, long, fits);
      calls_are = is ∙ ap (λ cs. cs ++ Gives draft piece ∷ Gives target piece ∷ []) gave.calls_are
          ∙ append_assoc first (both_give draft target gave.pieces) (Gives draft piece ∷ Gives target piece ∷ [])
          ∙ ap (λ cs. first ++ cs) (sym (both_more draft target piece gave.pieces));
    }

pub gave_all : (draft target : List ℕ) (count left : ℕ) (first calls : List FileCall)
    → GaveSame draft target count left first calls → left ≤ 0
    → (pieces : List (List ℕ)) × (length (concat pieces) ≡ count) × (calls ≡ first ++ both_give draft target pieces)
gave_all draft target count left first calls gave none =
    let whole = gave.whole in (gave.pieces, omega (arith, whole, none), gave.calls_are)

pub gave_other : (draft target a b : List ℕ) (count left : ℕ) (first old new : List FileCall)
    → GaveSame draft target count left first old → a ≢ b → new ≡ old ++ Gives draft a ∷ Gives target b ∷ []
    → (pieces : List (List ℕ)) × (a : List ℕ) × (b : List ℕ) × (a ≢ b)
    × (new ≡ first ++ both_give draft target pieces ++ Gives draft a ∷ Gives target b ∷ [])
gave_other draft target a b count left first old new gave other is =
    (gave.pieces, a, b, other, is ∙ ap (λ cs. cs ++ Gives draft a ∷ Gives target b ∷ []) gave.calls_are)

-- more that was asked after what was asked
pub asked_behind : (first old new before : List FileCall) → old ≡ first ++ before → are_probes before ≡ true
    → (tests : List FileCall) × (are_probes tests ≡ true) × (new ≡ old ++ tests)
    → (tests : List FileCall) × (are_probes tests ≡ true) × (new ≡ first ++ tests)
asked_behind first old new before was asked (tests, are, is) =
    (before ++ tests, probes_append before tests asked are, is ∙ ap (λ cs. cs ++ tests) was ∙ append_assoc first before tests)

pub gave_refused : (draft target : List ℕ) (count left : ℕ) (first old new : List FileCall)
    → GaveSame draft target count left first old
    → (tests : List FileCall) × (are_probes tests ≡ true) × (new ≡ old ++ tests)
    → (tests : List FileCall) × (are_probes tests ≡ true) × (new ≡ first ++ tests)
gave_refused draft target count left first old new gave =
    asked_behind first old new (both_give draft target gave.pieces) gave.calls_are (both_probes draft target gave.pieces)

-- files that are not the same were only asked
pub other_probes : (draft target : List ℕ) (calls : List FileCall) → AreOther draft target calls → are_probes calls ≡ true
other_probes draft target calls (of_target, of_draft, inl (sizes, is)) = ap are_probes is
other_probes draft target calls (of_target, of_draft, inr (pieces, a, b, other, is)) =
    ap are_probes is
    ∙ probes_append (both_give draft target pieces) (Gives draft a ∷ Gives target b ∷ []) (both_probes draft target pieces) refl

-- they were opened, and gave other bytes
pub other_behind : (draft target : List ℕ) (of_target of_draft : Found) (old one two three four new : List FileCall)
    → one ≡ old ++ Finds target of_target ∷ [] → two ≡ one ++ Finds draft of_draft ∷ [] → three ≡ two ++ []
    → four ≡ three ++ []
    → (pieces : List (List ℕ)) × (a : List ℕ) × (b : List ℕ) × (a ≢ b)
    × (new ≡ four ++ both_give draft target pieces ++ Gives draft a ∷ Gives target b ∷ [])
    → (tests : List FileCall) × AreOther draft target tests × (new ≡ old ++ tests)
other_behind draft target of_target of_draft old one two three four new first second third fourth (pieces, a, b, other, is) =
    let last = Gives draft a ∷ Gives target b ∷ [] in (
      Finds target of_target ∷ Finds draft of_draft ∷ both_give draft target pieces ++ last,
      (of_target, of_draft, inr (pieces, a, b, other, refl)),
      is ∙ append_assoc four (both_give draft target pieces) last
          ∙ ap (λ cs. cs ++ (both_give draft target pieces ++ last))
          (fourth ∙ append-nil three ∙ third ∙ append-nil two ∙ second
          ∙ ap (λ cs. cs ++ Finds draft of_draft ∷ []) first
          ∙ append_assoc old (Finds target of_target ∷ []) (Finds draft of_draft ∷ []))
          ∙ append_assoc old (Finds target of_target ∷ Finds draft of_draft ∷ []) (both_give draft target pieces ++ last),
    )
