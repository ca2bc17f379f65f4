-- What the lines say after those that were read.
use Rattle.std.proofs.Common.{◌≡◌, ◌∙◌, sym, ap, refl, arith, ℕ, ◌+◌, ◌<◌, ◌≤◌, List, [], ◌∷◌, ◌++◌, append_assoc}
use Rattle.std.proofs.Common.{length, get_or, drop, nat_lt, true, false, Some, None, Result, Ok, Err, Bor}
use Rattle.std.proofs.lemmas.Bool.{le-ltb, lt-ltb}
use Rattle.std.proofs.lemmas.List.{at_drop_more, get_or-map, length-map, map-append}
use Rattle.text_input_files.specs.declared.event.Event.{Event}
use Rattle.text_input_files.specs.Events.{Act, act_of, line_act}
use Rattle.text_values.specs.Lines.{Line, seen}
use Rattle.text_input_files.specs.Script.{Wrong, acts, event_then, events_of, most_events, onto}
use Rattle.text_input_files.specs.declared.script.ScriptFault.TheVariants.{BadEvent, TooManyEvents}

-- these events, and those that are read after them
abbrev pub behind : List Act → Result (List Act) Wrong → Result (List Act) Wrong
behind front (Ok acts) = Ok (front ++ acts)
behind front (Err e) = Err e

pub behind-nil : (r : Result (List Act) Wrong) → behind [] r ≡ r
behind-nil (Ok acts) = refl
behind-nil (Err e) = refl

behind-onto : (front : List Act) (act : Act) (r : Result (List Act) Wrong) → behind front (onto act r) ≡ behind (front ++ act ∷ []) r
behind-onto front act (Ok acts) = ap Ok (sym (append_assoc front (act ∷ []) acts))
behind-onto front act (Err e) = refl

-- a line as the definitions have it
abbrev view : ℕ × Bor (List ℕ) → ℕ × Line
view l = (l.0, l.1.now)

-- what the line at a place says, and those after it
at_line : (lines : List (ℕ × Bor (List ℕ))) (i n : ℕ) (d : ℕ × Bor (List ℕ)) → i < length lines
    → events_of n (drop i (seen lines)) ≡ event_then (get_or lines i d).0 n (line_act (get_or lines i d).1.now) (events_of (n + 1) (drop (i + 1) (seen lines)))
at_line lines i n d l =
    at_drop_more (events_of n) (seen lines) i (view d) (omega (arith, length-map lines view, l))
    ∙ ap (λ (y : ℕ × Line). event_then y.0 n (line_act y.1) (events_of (n + 1) (drop (i + 1) (seen lines))))
    (get_or-map view lines i d (view d) l)

-- a line that is an event
pub one_more : (lines : List (ℕ × Bor (List ℕ))) (i : ℕ) (d : ℕ × Bor (List ℕ)) (event : Event) (front : List Event)
    → i < length lines → Some (act_of event) ≡ line_act (get_or lines i d).1.now → i < 10000
    → behind (acts (front ++ event ∷ [])) (events_of (i + 1) (drop (i + 1) (seen lines))) ≡ behind (acts front) (events_of i (drop i (seen lines)))
one_more lines i d event front l means few =
    let here = at_line lines i i d l in
    let left : nat_lt i most_events ≡ true = lt-ltb i 10000 few in
    rw (map-append act_of front (event ∷ []), here, ← means, left) (sym (behind-onto (acts front) (act_of event) _))

-- a line that is none
pub no_event : (lines : List (ℕ × Bor (List ℕ))) (i : ℕ) (d : ℕ × Bor (List ℕ)) (front : List Act) (all : Result (List Act) Wrong)
    → i < length lines → None ≡ line_act (get_or lines i d).1.now
    → behind front (events_of i (drop i (seen lines))) ≡ all
    → all ≡ Err (BadEvent, (get_or lines i d).0 + 1)
no_event lines i d front all l none so_far = let here = at_line lines i i d l in rw (← so_far, here, ← none) refl

-- an event too many
pub too_many : (lines : List (ℕ × Bor (List ℕ))) (i : ℕ) (d : ℕ × Bor (List ℕ)) (act : Act) (front : List Act) (all : Result (List Act) Wrong)
    → i < length lines → Some act ≡ line_act (get_or lines i d).1.now → 10000 ≤ i
    → behind front (events_of i (drop i (seen lines))) ≡ all
    → all ≡ Err (TooManyEvents, (get_or lines i d).0 + 1)
too_many lines i d act front all l means many so_far =
    let here = at_line lines i i d l in
    let full : nat_lt i most_events ≡ false = le-ltb i 10000 many in
    rw (← so_far, here, ← means, full) refl
