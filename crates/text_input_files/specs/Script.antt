-- The bytes that are a script, and the faults of other bytes.
use Rattle.std.specs.Prelude.{◌≡◌, ◌+◌, ℕ, ◌≤◌, ◌⊎◌, List, [], ◌∷◌, ◌++◌, length, nat_lt, if◌then◌else◌, map, ⊤}
use Rattle.std.specs.Prelude.{Option, Some, None, IsSome, Result, Ok, Err}
use Rattle.text_input_files.specs.declared.event.Event.{Event}
use Rattle.text_input_files.specs.Events.{Act, act_of, line_act, line_sites}
use Rattle.text_values.specs.Lines.{Line, counting, line_count}
use Rattle.text_input_files.specs.declared.script.ScriptError.{ScriptError}
use Rattle.text_input_files.specs.declared.script.ScriptError.TheVariants.{Faulty, OutOfMemory}
use Rattle.text_input_files.specs.declared.script.ScriptFault.{ScriptFault}
use Rattle.text_input_files.specs.declared.script.ScriptFault.TheVariants.{NoSites, BadEvent, TooManyEvents}

-- the largest number of events in a script
abbrev pub most_events : ℕ
most_events = 10000

-- the fault of a line, and its number, counted from 1
abbrev pub Wrong : Type 0
Wrong = ScriptFault × ℕ

-- the fault of the line after this number of lines
abbrev pub wrong : {T : Type 0} → ScriptFault → ℕ → Result T Wrong
wrong fault before = Err (fault, before + 1)

-- an event, and the events after it
abbrev pub onto : Act → Result (List Act) Wrong → Result (List Act) Wrong
onto act (Ok acts) = Ok (act ∷ acts)
onto act (Err e) = Err e

-- a line after these numbers of lines and of events, and the result of the lines after it
abbrev pub event_then : ℕ → ℕ → Option Act → Result (List Act) Wrong → Result (List Act) Wrong
event_then before events None behind = wrong BadEvent before
event_then before events (Some act) behind =
    if nat_lt events most_events then onto act behind else wrong TooManyEvents before

-- the events of the lines that count, after this number of events: each line is one, or the fault of the first that is
-- none
abbrev pub events_of : ℕ → List (ℕ × Line) → Result (List Act) Wrong
events_of events [] = Ok []
events_of events (line ∷ behind) = event_then line.0 events (line_act line.1) (events_of (events + 1) behind)

-- a script: this number of sites, and these events
abbrev pub sites_then : ℕ → Option ℕ → Result (List Act) Wrong → Result (ℕ × List Act) Wrong
sites_then before None behind = wrong NoSites before
sites_then before (Some sites) (Ok acts) = Ok (sites, acts)
sites_then before (Some sites) (Err e) = Err e

-- the first line that counts has the number of sites, and each further one is an event. If none counts, the fault is at
-- the line after all lines
abbrev pub script_in : ℕ → List (ℕ × Line) → Result (ℕ × List Act) Wrong
script_in lines [] = wrong NoSites lines
script_in lines (first ∷ further) = sites_then first.0 (line_sites first.1) (events_of 0 further)

-- the script in the bytes, or the fault of the first faulty line
abbrev pub script_of : List ℕ → Result (ℕ × List Act) Wrong
script_of bytes = script_in (line_count bytes) (counting bytes)

-- the events that were read are these
abbrev pub acts : List Event → List Act
acts events = map act_of events

-- the error has this fault and line, or is `OutOfMemory`
abbrev pub IsErrorOf : {T : Type 0} → Result T Wrong → ScriptError → Type 0
IsErrorOf read (Faulty fault line) = read ≡ Err (fault, line)
IsErrorOf read OutOfMemory = ⊤

-- ---- scripts and their faults, by lines

-- these lines are these events, one per line
abbrev pub AreEvents : List (ℕ × Line) → List Act → Type 0
AreEvents lines events = map (λ l. line_act l.1) lines ≡ map Some events

-- the first line that counts has the number of sites, each further one is the next of these events, and there are not
-- too many
pub record IsScript (bytes : List ℕ) (sites : ℕ) (events : List Act) : Type 0 where
  pub first : ℕ × Line
  pub further : List (ℕ × Line)
  pub lines : counting bytes ≡ first ∷ further
  pub asked : line_sites first.1 ≡ Some sites
  pub meant : AreEvents further events
  pub few : length events ≤ most_events

-- no line counts, and this is the number of lines plus one; or the first line that counts has no number of sites, and
-- this is its number, counted from 1
abbrev pub SaysNoSites : List ℕ → ℕ → Type 0
SaysNoSites bytes number =
    ((counting bytes ≡ []) × (number ≡ line_count bytes + 1))
    ⊎ ((first : ℕ × Line) × (further : List (ℕ × Line)) × (counting bytes ≡ first ∷ further)
    × (line_sites first.1 ≡ None) × (number ≡ first.0 + 1))

-- a line that counts and has this number, counted from 1: the first such line has the number of sites, and those
-- between are events, not too many
pub record IsReached (bytes : List ℕ) (number : ℕ) : Type 0 where
  pub first : ℕ × Line
  pub between : List (ℕ × Line)
  pub line : ℕ × Line
  pub after : List (ℕ × Line)
  pub lines : counting bytes ≡ first ∷ (between ++ line ∷ after)
  pub sites : ℕ
  pub asked : line_sites first.1 ≡ Some sites
  pub events : List Act
  pub meant : AreEvents between events
  pub few : length events ≤ most_events
  pub number_is : number ≡ line.0 + 1

-- the fault and the number of the first faulty line: it has no number of sites; or it is reached and is no event; or it
-- is reached after the largest number of events, and is one more
abbrev pub IsFirstFault : List ℕ → ScriptFault → ℕ → Type 0
IsFirstFault bytes NoSites number = SaysNoSites bytes number
IsFirstFault bytes BadEvent number = (at : IsReached bytes number) × (line_act at.line.1 ≡ None)
IsFirstFault bytes TooManyEvents number =
    (at : IsReached bytes number) × (length at.events ≡ most_events) × IsSome (line_act at.line.1)
