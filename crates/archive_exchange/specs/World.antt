-- Sites that exchange files: the state of all sites, an event, its effect, and its outcome.
use Rattle.std.specs.Prelude.{Result, ℕ, zero, suc, List, [], ◌∷◌, ◌++◌, Bool, true}
use Rattle.std.specs.Prelude.{false, ◌==◌, if◌then◌else◌, nat_lt, length, slice_get}
use Rattle.std.specs.declared.option.Option.{Option}
use Rattle.std.specs.declared.option.Option.TheVariants.{None, Some}
use Rattle.std.specs.declared.result.Result.TheVariants.{Ok, Err}
use Rattle.std.specs.List.{filter_map}
use Rattle.std.specs.FinSet as set
use Rattle.archive_core.specs.Content.{Operations, with_record, with_records, changes, joined}
use Rattle.archive_core.specs.Summary.{Entries, summary, delta}

-- a message from one site to another: a content, or the summary of one
pub data Message : Type 0 where
  Content : (operations : Operations) → Message
  Summary : (entries : Entries) → Message

abbrev pub is_summary : Message → Bool
is_summary (Content o) = false
is_summary (Summary s) = true

-- the operations of a message, and the entries of a message
abbrev pub operations_of : Message → Operations
operations_of (Content o) = o
operations_of (Summary s) = set.empty

abbrev pub entries_of : Message → Entries
entries_of (Content o) = set.empty
entries_of (Summary s) = s

-- a file in the model: for each of its parts the record of its admission, or none if the part is skipped; or the fault
-- F for which the file is refused
abbrev pub File : Type 0 → Type 0
File F = Result (List (Option (List ℕ))) F

-- the records of a file's parts, in their order
abbrev pub records : List (Option (List ℕ)) → List (List ℕ)
records parts = filter_map (λ part. part) parts

-- an event at a site: it takes a file or the record of a retirement, sends its whole content, asks with its summary,
-- replies to a summary, receives a message, saves, or stops and begins again from the saved bytes
pub data Event (F : Type 0) : Type 0 where
  Take : (site : ℕ) (file : File F) → Event F
  Retire : (site : ℕ) (retirement : List ℕ) → Event F
  Full : (site : ℕ) → Event F
  Ask : (site : ℕ) → Event F
  Reply : (site : ℕ) (message : ℕ) → Event F
  Deliver : (site : ℕ) (message : ℕ) → Event F
  Save : (site : ℕ) → Event F
  Stop : (site : ℕ) → Event F

abbrev pub site_of : {F : Type 0} → Event F → ℕ
site_of (Take i file) = i
site_of (Retire i r) = i
site_of (Full i) = i
site_of (Ask i) = i
site_of (Reply i m) = i
site_of (Deliver i m) = i
site_of (Save i) = i
site_of (Stop i) = i

-- why an event is refused: there is no such site, or no such message; a reply to a content; a delivery of a summary; or
-- the file's fault
pub data Fault (F : Type 0) : Type 0 where
  NoSite : Fault F
  NoMessage : Fault F
  NotASummary : Fault F
  NotAContent : Fault F
  FileRefused : (fault : F) → Fault F

-- the result of one part of a file that was taken
pub data Row : Type 0 where
  Added : (admission : List ℕ) → Row
  Known : (admission : List ℕ) → Row
  Skipped : Row

-- the outcome of an event: the rows of a file, whether a retirement is new, the number of the message that was sent,
-- that it was done, or why it was refused
pub data Outcome (F : Type 0) : Type 0 where
  Took : (rows : List Row) → Outcome F
  Retired : (new : Bool) → Outcome F
  Sent : (message : ℕ) → Outcome F
  Delivered : Outcome F
  Saved : Outcome F
  Stopped : Outcome F
  Refused : (fault : Fault F) → Outcome F

-- the content and the saved content of each site, and every message that was ever sent, in their order
pub record World : Type 0 where
  pub held : ℕ → Operations
  pub saved : ℕ → Operations
  pub messages : List Message

-- each site is empty, and no message was sent
abbrev pub start : World
start = record { held = λ _. set.empty; saved = λ _. set.empty; messages = [] }

-- the same for each site except i, and o for i
abbrev pub updated : (ℕ → Operations) → ℕ → Operations → ℕ → Operations
updated sites i o j = if j == i then o else sites j

-- why an event is refused, the first fault in this order: NoSite, NoMessage, NotASummary or NotAContent, FileRefused
abbrev pub reply_fault : {F : Type 0} → Option Message → Option (Fault F)
reply_fault None = Some NoMessage
reply_fault (Some m) = if is_summary m then None else Some NotASummary

abbrev pub deliver_fault : {F : Type 0} → Option Message → Option (Fault F)
deliver_fault None = Some NoMessage
deliver_fault (Some m) = if is_summary m then Some NotAContent else None

abbrev pub fault_at_site : {F : Type 0} → List Message → Event F → Option (Fault F)
fault_at_site messages (Take i (Err f)) = Some (FileRefused f)
fault_at_site messages (Reply i m) = reply_fault (slice_get messages m)
fault_at_site messages (Deliver i m) = deliver_fault (slice_get messages m)
fault_at_site messages _ = None

abbrev pub fault_of : {F : Type 0} → ℕ → World → Event F → Option (Fault F)
fault_of sites w e = if nat_lt (site_of e) sites then fault_at_site w.messages e else Some NoSite

-- the message, or an empty content if there is none
abbrev pub message_or : Option Message → Message
message_or None = Content set.empty
message_or (Some m) = m

-- the world after site i changed to o; after one more message; after site i saved its content
abbrev pub with_held : World → ℕ → Operations → World
with_held w i o = record w { held = updated w.held i o }

abbrev pub with_sent : World → Message → World
with_sent w m = record w { messages = w.messages ++ m ∷ [] }

abbrev pub with_saved : World → ℕ → World
with_saved w i = record w { saved = updated w.saved i (w.held i) }

-- the world after an event that is not refused
abbrev pub effect : {F : Type 0} → World → Event F → World
effect w (Take i (Err f)) = w
effect w (Take i (Ok parts)) = with_held w i (with_records (w.held i) (records parts))
effect w (Retire i r) = with_held w i (with_record (w.held i) r)
effect w (Full i) = with_sent w (Content (w.held i))
effect w (Ask i) = with_sent (with_saved w i) (Summary (summary (w.held i)))
effect w (Reply i m) = with_sent w (Content (delta (w.held i) (entries_of (message_or (slice_get w.messages m)))))
effect w (Deliver i m) = with_held w i (joined (w.held i) (operations_of (message_or (slice_get w.messages m))))
effect w (Save i) = with_saved w i
effect w (Stop i) = with_held w i (w.saved i)

-- the old world if there is a fault, otherwise the new one
abbrev pub unless : {F : Type 0} → Option (Fault F) → World → World → World
unless (Some f) w v = w
unless None w v = v

-- the world after an event
abbrev pub happens : {F : Type 0} → ℕ → World → Event F → World
happens sites w e = unless (fault_of sites w e) w (effect w e)

-- the result of a record that is taken
abbrev pub row_of : Operations → List ℕ → Row
row_of o r = if changes o r then Added r else Known r

-- a row for each part, in their order, each on the content after the parts before it; laws.rows_in_order describes the
-- rows
abbrev pub rows : Operations → List (Option (List ℕ)) → List Row
rows o [] = []
rows o (None ∷ parts) = Skipped ∷ rows o parts
rows o (Some r ∷ parts) = row_of o r ∷ rows (with_record o r) parts

-- the outcome of an event that is not refused
abbrev pub answer : {F : Type 0} → World → Event F → Outcome F
answer w (Take i (Err f)) = Refused (FileRefused f)
answer w (Take i (Ok parts)) = Took (rows (w.held i) parts)
answer w (Retire i r) = Retired (changes (w.held i) r)
answer w (Full i) = Sent (length w.messages)
answer w (Ask i) = Sent (length w.messages)
answer w (Reply i m) = Sent (length w.messages)
answer w (Deliver i m) = Delivered
answer w (Save i) = Saved
answer w (Stop i) = Stopped

-- the refusal if there is a fault, otherwise the other outcome
abbrev pub refused_or : {F : Type 0} → Option (Fault F) → Outcome F → Outcome F
refused_or (Some f) o = Refused f
refused_or None o = o

-- the outcome of an event
abbrev pub outcome : {F : Type 0} → ℕ → World → Event F → Outcome F
outcome sites w e = refused_or (fault_of sites w e) (answer w e)

-- the world after the event with a number, if the list has one
abbrev pub stepped : {F : Type 0} → ℕ → World → Option (Event F) → World
stepped sites w None = w
stepped sites w (Some e) = happens sites w e

-- the state after the first n events
abbrev pub state : {F : Type 0} → ℕ → List (Event F) → ℕ → World
state sites events zero = start
state sites events (suc n) = stepped sites (state sites events n) (slice_get events n)

-- the outcomes of the first n events, in their order
abbrev pub outcome_of : {F : Type 0} → ℕ → World → Option (Event F) → List (Outcome F)
outcome_of sites w None = []
outcome_of sites w (Some e) = outcome sites w e ∷ []

abbrev pub outcomes : {F : Type 0} → ℕ → List (Event F) → ℕ → List (Outcome F)
outcomes sites events zero = []
outcomes sites events (suc n) = outcomes sites events n ++ outcome_of sites (state sites events n) (slice_get events n)
