-- A script by its lines, and the first faulty line.
use Rattle.std.proofs.Common.{◌≡◌, ◌∙◌, sym, ap, refl, arith, ℕ, ◌+◌, ◌≤◌, ◌⊎◌, inl, inr, true, false, List, [], ◌∷◌}
use Rattle.std.proofs.Common.{◌++◌, append_assoc, length, map, nat_lt, Option, Some, None, Result, Ok, Err}
use Rattle.std.specs.Prelude.{IsSome, is_some}
use Rattle.std.proofs.lemmas.Bool.{cases_lt, le-ltb, lt-ltb}
use Rattle.std.proofs.lemmas.List.{append-nil, length-append, map-append}
use Rattle.text_input_files.specs.Events.{Act, line_act, line_sites}
use Rattle.text_values.specs.Lines.{Line, counting, line_count}
use Rattle.text_input_files.specs.Script.{AreEvents, IsFirstFault, IsReached, IsScript, Wrong, events_of, most_events, onto, script_of}
use Rattle.text_input_files.specs.declared.script.ScriptFault.{ScriptFault}
use Rattle.text_input_files.specs.declared.script.ScriptFault.TheVariants.{NoSites, BadEvent, TooManyEvents}
use Rattle.text_input_files.proofs.ScriptSequels.{behind, behind-nil}

-- ---- what the functions say

onto_behind : (act : Act) (acts : List Act) (r : Result (List Act) Wrong) → onto act (behind acts r) ≡ behind (act ∷ acts) r
onto_behind act acts (Ok rest) = refl
onto_behind act acts (Err e) = refl

-- what stands after lines that are events
front_said : (n : ℕ) (front rest : List (ℕ × Line)) (acts : List Act) → AreEvents front acts → n + length acts ≤ 10000
    → events_of n (front ++ rest) ≡ behind acts (events_of (n + length acts) rest)
front_said n [] rest [] h few = let e : n ≡ n + 0 = omega arith in ap (λ m. events_of m rest) e ∙ sym (behind-nil _)
front_said n [] rest (act ∷ acts) h few = cc
front_said n (line ∷ front) rest [] h few = cc
front_said n (line ∷ front) rest (act ∷ acts) h few =
    let first : line_act line.1 ≡ Some act = cc in
    let further : map (λ l. line_act l.1) front ≡ map Some acts = cc in
    let more = front_said (n + 1) front rest acts further (omega arith) in
    let left : nat_lt n most_events ≡ true = lt-ltb n 10000 (omega arith) in
    let count : n + 1 + length acts ≡ n + length (act ∷ acts) = omega arith in
    rw (first, more, left) (onto_behind act acts _) ∙ ap (λ m. behind (act ∷ acts) (events_of m rest)) count

pub script_said : (bytes : List ℕ) (sites : ℕ) (acts : List Act) → IsScript bytes sites acts → script_of bytes ≡ Ok (sites, acts)
script_said bytes sites acts is =
    let all = front_said 0 is.further [] acts is.meant (omega (arith, is.few)) in
    let none : is.further ++ [] ≡ is.further = append-nil is.further in
    rw (is.lines, is.asked, ← none, all, append-nil acts) refl

-- a line that is reached, and what is wrong with it
module _ (bytes : List ℕ) (number : ℕ) (at : IsReached bytes number) where
  told : (fault : ScriptFault) → events_of (0 + length at.events) (at.line ∷ at.after) ≡ Err (fault, at.line.0 + 1) → script_of bytes ≡ Err (fault, number)
  told fault h =
      let front = front_said 0 at.between (at.line ∷ at.after) at.events at.meant (omega (arith, at.few)) in
      rw (at.lines, at.asked, front, h, at.number_is) refl

  many_said : length at.events ≡ most_events → (o : Option Act) → line_act at.line.1 ≡ o → IsSome o → script_of bytes ≡ Err (TooManyEvents, number)
  many_said many None is some = cc
  many_said many (Some act) is some =
      let full : nat_lt (0 + length at.events) most_events ≡ false = le-ltb (0 + length at.events) 10000 (omega (arith, many)) in
      told TooManyEvents (rw (is, full) refl)

pub fault_said : (bytes : List ℕ) (fault : ScriptFault) (line : ℕ) → IsFirstFault bytes fault line → script_of bytes ≡ Err (fault, line)
fault_said bytes NoSites line (inl none) = rw (none.0, none.1) refl
fault_said bytes NoSites line (inr other) = rw (other.2, other.3, other.4) refl
fault_said bytes BadEvent line is = told bytes line is.0 BadEvent (rw is.1 refl)
fault_said bytes TooManyEvents line is = many_said bytes line is.0 is.1 (line_act is.0.line.1) refl is.2

-- ---- either, and one

abbrev IsEither : List ℕ → Type 0
IsEither bytes =
    ((sites : ℕ) × (events : List Act) × IsScript bytes sites events)
    ⊎ ((fault : ScriptFault) × (line : ℕ) × IsFirstFault bytes fault line)

module _ (bytes : List ℕ) (first : ℕ × Line) (sites : ℕ) (asked : line_sites first.1 ≡ Some sites) where
  -- after lines that are events
  behind_events : (between : List (ℕ × Line)) (events : List Act) → AreEvents between events → length events ≤ 10000
      → (lines : List (ℕ × Line)) → counting bytes ≡ first ∷ (between ++ lines) → IsEither bytes
  behind_events between events good few [] e =
      let lines : counting bytes ≡ first ∷ between = e ∙ ap (λ ls. first ∷ ls) (append-nil between) in
      inl (sites, events, record { first = first; further = between; lines = lines; asked = asked; meant = good; few = few })
  behind_events between events good few (line ∷ after) e =
      let at : IsReached bytes (line.0 + 1) = record {
        first = first;
        between = between;
        line = line;
        after = after;
        lines = e;
        sites = sites;
        asked = asked;
        events = events;
        meant = good;
        few = few;
        number_is = refl;
      } in
      elim (line_act line.1) as (λ o. line_act line.1 ≡ o → IsEither bytes) [
        | None ↦ λ is. inr (BadEvent, line.0 + 1, (at, is))
        | Some act ↦ λ is. elim (cases_lt (length events) 10000) [
          | inl l ↦
              let meant : AreEvents (between ++ line ∷ []) (events ++ act ∷ []) =
              rw (map-append (λ l. line_act l.1) between (line ∷ []), map-append Some events (act ∷ []), good, is) refl in
              behind_events (between ++ line ∷ []) (events ++ act ∷ []) meant (omega (arith, length-append events (act ∷ []))) after
              (e ∙ ap (λ ls. first ∷ ls) (sym (append_assoc between (line ∷ []) after)))
          | inr full ↦ inr (TooManyEvents, line.0 + 1, (at, omega arith, ap is_some is))
        ]
      ] refl

pub either : (bytes : List ℕ) → IsEither bytes
either bytes = by (counting bytes) refl
  where
    by : (lines : List (ℕ × Line)) → counting bytes ≡ lines → IsEither bytes
    by [] e = inr (NoSites, line_count bytes + 1, inl (e, refl))
    by (first ∷ further) e = elim (line_sites first.1) as (λ o. line_sites first.1 ≡ o → IsEither bytes) [
      | None ↦ λ is. inr (NoSites, first.0 + 1, inr (first, further, e, is, refl))
      | Some sites ↦ λ asked. behind_events bytes first sites asked [] [] refl (omega arith) further e
    ] refl

pub not_both : (bytes : List ℕ) (sites : ℕ) (events : List Act) (fault : ScriptFault) (line : ℕ)
    → IsScript bytes sites events → IsFirstFault bytes fault line → ⊥
not_both bytes sites events fault line script faulty =
    let good = script_said bytes sites events script in
    let bad = fault_said bytes fault line faulty in
    cc

-- one reading has one value, and one error
one_value : {A B E : Type 0} (r : Result (A × B) E) (a c : A) (b d : B) → r ≡ Ok (a, b) → r ≡ Ok (c, d) → (a ≡ c) × (b ≡ d)
one_value {A = A} {B = B} r a c b d p q =
    let one : A × B = (a, b) in let other : A × B = (c, d) in
    let same : one ≡ other = cc in (ap (λ x. x.0) same, ap (λ x. x.1) same)

one_error : {A B T : Type 0} (r : Result T (A × B)) (a c : A) (b d : B) → r ≡ Err (a, b) → r ≡ Err (c, d) → (a ≡ c) × (b ≡ d)
one_error {A = A} {B = B} r a c b d p q =
    let one : A × B = (a, b) in let other : A × B = (c, d) in
    let same : one ≡ other = cc in (ap (λ x. x.0) same, ap (λ x. x.1) same)

pub one_fault : (bytes : List ℕ) (fault other : ScriptFault) (line other_line : ℕ) → IsFirstFault bytes fault line → IsFirstFault bytes other other_line
    → (fault ≡ other) × (line ≡ other_line)
one_fault bytes fault other line other_line a b =
    one_error (script_of bytes) fault other line other_line (fault_said bytes fault line a) (fault_said bytes other other_line b)

-- so what the functions say is so
pub script_lines : (bytes : List ℕ) (sites : ℕ) (acts : List Act) → script_of bytes ≡ Ok (sites, acts) → IsScript bytes sites acts
script_lines bytes sites acts h = elim (either bytes) [
  | inl script ↦
      let same = one_value (script_of bytes) sites script.0 acts script.1 h (script_said bytes script.0 script.1 script.2) in
      rw (same.0, same.1) script.2
  | inr faulty ↦ let listed = fault_said bytes faulty.0 faulty.1 faulty.2 in cc (sym listed ∙ h)
]

pub fault_lines : (bytes : List ℕ) (fault : ScriptFault) (line : ℕ) → script_of bytes ≡ Err (fault, line) → IsFirstFault bytes fault line
fault_lines bytes fault line h = elim (either bytes) [
  | inl script ↦ let listed = script_said bytes script.0 script.1 script.2 in cc (sym listed ∙ h)
  | inr faulty ↦
      let same = one_error (script_of bytes) fault faulty.0 line faulty.1 h (fault_said bytes faulty.0 faulty.1 faulty.2) in
      rw (same.0, same.1) faulty.2
]
