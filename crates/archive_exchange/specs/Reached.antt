-- The operations that reach a site: a function of the number of sites and the list of events, without a state.
use Rattle.std.specs.Prelude.{◌≡◌, ℕ, zero, suc, List, [], ◌∷◌, ◌++◌, Bool, true, false, not, ◌&&◌}
use Rattle.std.specs.Prelude.{◌||◌, ◌==◌, if◌then◌else◌, nat_lt, ◌<◌, length, slice_get}
use Rattle.std.specs.declared.option.Option.{Option}
use Rattle.std.specs.declared.option.Option.TheVariants.{None, Some}
use Rattle.std.specs.declared.result.Result.TheVariants.{Ok, Err}
use Rattle.std.specs.FinSet as set
use Rattle.archive_core.specs.Content.{Operations, content_of}
use Rattle.archive_core.specs.Summary.{Entries, summary, delta}
use Rattle.archive_exchange.specs.World.{Event, Take, Retire, Full, Ask, Reply, Deliver, Save, Stop}
use Rattle.archive_exchange.specs.World.{site_of, records, Message, Content, Summary, operations_of}

-- whether an event, if there is one, is an Ask; sends a message; saves; is a Stop
abbrev pub is_ask : {F : Type 0} → Option (Event F) → Bool
is_ask (Some (Ask i)) = true
is_ask _ = false

abbrev pub is_sending : {F : Type 0} → Option (Event F) → Bool
is_sending (Some (Full i)) = true
is_sending (Some (Ask i)) = true
is_sending (Some (Reply i m)) = true
is_sending _ = false

abbrev pub is_saving : {F : Type 0} → Option (Event F) → Bool
is_saving (Some (Ask i)) = true
is_saving (Some (Save i)) = true
is_saving _ = false

abbrev pub is_stop : {F : Type 0} → Option (Event F) → Bool
is_stop (Some (Stop i)) = true
is_stop _ = false

-- the site of an event, or 0 if there is none
abbrev pub site_or : {F : Type 0} → Option (Event F) → ℕ
site_or None = 0
site_or (Some e) = site_of e

-- whether each number above k and below n has the property, and whether some such number has it
abbrev pub each_between : ℕ → ℕ → (ℕ → Bool) → Bool
each_between k zero p = true
each_between k (suc n) p = (not (nat_lt k n) || p n) && each_between k n p

abbrev pub some_between : ℕ → ℕ → (ℕ → Bool) → Bool
some_between k zero p = false
some_between k (suc n) p = (nat_lt k n && p n) || some_between k n p

-- the union of the first n sets
abbrev pub union_below : ℕ → (ℕ → Operations) → Operations
union_below zero f = set.empty
union_below (suc n) f = set.union (union_below n f) (f n)

module _ {F : Type 0} (sites : ℕ) (events : List (Event F)) where
  -- whether a message exists and its event is an Ask; and whether it exists and its event is not an Ask
  abbrev pub from_ask : Option ℕ → Bool
  from_ask None = false
  from_ask (Some f) = is_ask (slice_get events f)

  abbrev pub from_other : Option ℕ → Bool
  from_other None = false
  from_other (Some f) = not (is_ask (slice_get events f))

  -- whether an event is accepted; `sent` is the list of the numbers of the events that sent the messages
  abbrev pub is_accepted : List ℕ → Option (Event F) → Bool
  is_accepted sent None = false
  is_accepted sent (Some (Take i (Err f))) = false
  is_accepted sent (Some (Reply i m)) = nat_lt i sites && from_ask (slice_get sent m)
  is_accepted sent (Some (Deliver i m)) = nat_lt i sites && from_other (slice_get sent m)
  is_accepted sent (Some e) = nat_lt (site_of e) sites

  -- the numbers of the accepted Full, Ask and Reply events before n: the event at index m sent message m
  abbrev pub senders : ℕ → List ℕ
  senders zero = []
  senders (suc n) = senders n ++
      (if is_accepted (senders n) (slice_get events n) && is_sending (slice_get events n) then n ∷ [] else [])

  -- whether event k is an accepted event of site i; and a Stop; and a Save or an Ask
  abbrev pub is_of : ℕ → ℕ → Bool
  is_of i k = is_accepted (senders k) (slice_get events k) && i == site_or (slice_get events k)

  abbrev pub stops : ℕ → ℕ → Bool
  stops i k = is_of i k && is_stop (slice_get events k)

  abbrev pub saves : ℕ → ℕ → Bool
  saves i k = is_of i k && is_saving (slice_get events k)

  -- whether each Stop of i between k and n has a Save or Ask of i between k and the Stop
  abbrev pub is_kept : ℕ → ℕ → ℕ → Bool
  is_kept i k n = each_between k n (λ s. not (stops i s) || some_between k s (saves i))

  -- definitions over the operations that each site had after each number of events: had n i
  module _ (had : ℕ → ℕ → Operations) where
    -- the summary that event a, an Ask, sent
    abbrev pub asked : Option ℕ → Entries
    asked None = set.empty
    asked (Some a) = summary (had a (site_or (slice_get events a)))

    -- the message that event f sends: the operations of its site, their summary, or the delta from the summary of the
    -- Ask
    abbrev pub message_sent : ℕ → Option (Event F) → Message
    message_sent f (Some (Full x)) = Content (had f x)
    message_sent f (Some (Ask x)) = Summary (summary (had f x))
    message_sent f (Some (Reply x m)) = Content (delta (had f x) (asked (slice_get (senders f) m)))
    message_sent f _ = Content set.empty

    -- the operations of the message that event f sent
    abbrev pub carried : Option ℕ → Operations
    carried None = set.empty
    carried (Some f) = operations_of (message_sent f (slice_get events f))

    -- the operations that event k brings to its site: those of a file's records, a retirement, or those of a message
    abbrev pub given : ℕ → Option (Event F) → Operations
    given k (Some (Take i (Ok parts))) = set.from_list (records parts)
    given k (Some (Retire i r)) = set.from_list (r ∷ [])
    given k (Some (Deliver i m)) = carried (slice_get (senders k) m)
    given k _ = set.empty

    -- the operations that reach site i by n: those of its accepted events before n, without those that a stop lost
    abbrev pub reaching : ℕ → ℕ → Operations
    reaching i n = union_below n (λ k. if is_of i k && is_kept i k n then given k (slice_get events k) else set.empty)

  -- the operations that site i had by n, if a message is traced back through at most this number of others
  abbrev pub had_within : ℕ → ℕ → ℕ → Operations
  had_within zero n i = set.empty
  had_within (suc depth) n i = content_of (reaching (had_within depth) i n)

  -- the operations that site i had by n: a message is sent by an earlier event, so n steps back are enough
  abbrev pub had : ℕ → ℕ → Operations
  had n i = had_within n n i

  -- the operations that reach site i by the end of the list
  abbrev pub reached : ℕ → Operations
  reached i = reaching had i (length events)

-- how an operation reaches a site: event `number` brought it, and each Stop since then follows a Save or Ask since then
pub record Reaches {F : Type 0} (sites : ℕ) (events : List (Event F)) (had_by : ℕ → ℕ → Operations) (o : List ℕ)
    (i n : ℕ) : Type 0 where
  pub number : ℕ
  pub before : number < n
  pub of_site : is_of sites events i number ≡ true
  pub gave : set.contains (given sites events had_by number (slice_get events number)) o ≡ true
  pub kept : (s : ℕ) → number < s → s < n → stops sites events i s ≡ true
      → (t : ℕ) × (number < t) × (t < s) × (saves sites events i t ≡ true)
