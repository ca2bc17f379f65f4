-- What an event does, in the words of the list of events alone.
use Rattle.std.proofs.Common.{◌≡◌, ℕ, zero, suc, Bool, true, false, not, ◌&&◌, ◌==◌, if◌then◌else◌, nat_lt, List, []}
use Rattle.std.proofs.Common.{◌∷◌, ◌++◌, map, refl, sym, ap, ◌∙◌, subst, slice_get}
use Rattle.std.specs.declared.result.Result.TheVariants.{Ok, Err}
use Rattle.std.specs.declared.option.Option.{Option}
use Rattle.std.specs.declared.option.Option.TheVariants.{None, Some}
use Rattle.std.specs.Option.{option_map}
use Rattle.std.specs.Prelude.{is_none}
use Rattle.std.proofs.Math.Bool.{and-false, and-true}
use Rattle.std.proofs.lemmas.Bool.{eqb-true, cond_both}
use Rattle.std.proofs.lemmas.Option.{slice_get-map}
use Rattle.std.proofs.lemmas.List.{append-nil, map-append}
use Rattle.std.specs.FinSet as set
use Rattle.archive_core.specs.Content.{Operations, with_records, joined, IsMade}
use Rattle.archive_core.specs.Summary.{summary, delta}
use Rattle.archive_exchange.specs.World.{World, Event, Take, Retire, Full, Ask, Reply, Deliver, Save, Stop, site_of}
use Rattle.archive_exchange.specs.World.{records, Message, Content, Summary, is_summary, operations_of, entries_of}
use Rattle.archive_exchange.specs.World.{Fault, NoSite, FileRefused, reply_fault, deliver_fault, fault_of, message_or}
use Rattle.archive_exchange.specs.World.{effect, unless, stepped, state}
use Rattle.archive_exchange.specs.Reached.{is_ask, is_sending, is_saving, is_stop, site_or, from_ask, from_other}
use Rattle.archive_exchange.specs.Reached.{is_accepted, senders, is_of, stops, saves, asked, message_sent, carried}
use Rattle.archive_exchange.specs.Reached.{given}
use Rattle.archive_exchange.proofs.Content.{union_nothing, taken_gain}
use Rattle.archive_exchange.proofs.Between.{and_right}

-- an event happens where nothing refuses it
unless_none : {F : Type 0} (o : Option (Fault F)) (w v : World) → unless o w v ≡ (if is_none o then v else w)
unless_none None w v = refl
unless_none (Some f) w v = refl

-- nothing refuses an event of a site that is there but its own fault
none_at : {F : Type 0} (b : Bool) (x : Option (Fault F)) (c : Bool) → is_none x ≡ c → is_none (if b then x else Some NoSite) ≡ (b && c)
none_at true x c h = h
none_at false x c h = refl

reply_none : (F : Type 0) (m : Message) → is_none (reply_fault {F = F} (Some m)) ≡ is_summary m
reply_none F (Content o) = refl
reply_none F (Summary s) = refl

deliver_none : (F : Type 0) (m : Message) → is_none (deliver_fault {F = F} (Some m)) ≡ not (is_summary m)
deliver_none F (Content o) = refl
deliver_none F (Summary s) = refl

-- the world after an event that is not refused, if there is one
abbrev after : {F : Type 0} → World → Option (Event F) → World
after w None = w
after w (Some e) = effect w e

-- joined with nothing, a content stays what it is
nothing : (b : Bool) (o v : Operations) → IsMade o → (if b && false then v else joined o (if b then set.empty else set.empty)) ≡ o
nothing true o v is = rw union_nothing is
nothing false o v is = rw union_nothing is

-- a change at site s, as it is seen at site i
at_place : (i s : ℕ) (b : Bool) (x o v g : Operations) → IsMade o → (i ≡ s → x ≡ (if b then v else joined o g))
    → (if i == s then x else o) ≡ (if (i == s) && b then v else joined o (if i == s then g else set.empty))
at_place i s b x o v g is h =
    elim (i == s) as (λ c. (i == s) ≡ c → (if c then x else o) ≡ (if c && b then v else joined o (if c then g else set.empty))) [
      | true ↦ λ e. h (eqb-true i s e)
      | false ↦ λ e. sym (nothing false o v is)
    ] refl

saved_at : (i s : ℕ) (f g : ℕ → Operations) → (if i == s then f s else g i) ≡ (if (i == s) && true then f i else g i)
saved_at i s f g = elim (i == s) as (λ c. (i == s) ≡ c → (if c then f s else g i) ≡ (if c && true then f i else g i))
    [ true ↦ λ e. ap f (sym (eqb-true i s e)) | false ↦ λ e. refl ] refl

held_if : (b here stop : Bool) (w v : World) (i : ℕ) (g : Operations) → IsMade (w.held i) → v.held i
    ≡ (if here && stop then w.saved i else joined (w.held i) (if here then g else set.empty))
    → (if b then v else w).held i ≡ (if (b && here) && stop then w.saved i else joined (w.held i) (if b && here then g else set.empty))
held_if true here stop w v i g is h = h
held_if false here stop w v i g is h = sym (nothing false (w.held i) (w.saved i) is)

saved_if : (b here saving : Bool) (w v : World) (i : ℕ) → v.saved i ≡ (if here && saving then w.held i else w.saved i)
    → (if b then v else w).saved i ≡ (if (b && here) && saving then w.held i else w.saved i)
saved_if true here saving w v i h = h
saved_if false here saving w v i h = refl

module _ {F : Type 0} (sites : ℕ) (events : List (Event F)) where
  abbrev pub holding : ℕ → ℕ → Operations
  holding n i = (state sites events n).held i

  abbrev pub saving : ℕ → ℕ → Operations
  saving n i = (state sites events n).saved i

  abbrev pub sent : ℕ → Message
  sent f = message_sent sites events holding f (slice_get events f)

  -- what event number n gives a site, if it is one of its own
  abbrev pub gift : ℕ → ℕ → Operations
  gift n i = if is_of sites events i n then given sites events holding n (slice_get events n) else set.empty

  kind : (f : ℕ) (e : Option (Event F)) → is_summary (message_sent sites events holding f e) ≡ is_ask e
  kind f (Some (Full x)) = refl
  kind f (Some (Ask x)) = refl
  kind f (Some (Reply x m)) = refl
  kind f _ = refl

  reply_by : (o : Option ℕ) → is_none (reply_fault {F = F} (option_map sent o)) ≡ from_ask sites events o
  reply_by None = refl
  reply_by (Some f) = reply_none F (sent f) ∙ kind f (slice_get events f)

  deliver_by : (o : Option ℕ) → is_none (deliver_fault {F = F} (option_map sent o)) ≡ from_other sites events o
  deliver_by None = refl
  deliver_by (Some f) = deliver_none F (sent f) ∙ ap not (kind f (slice_get events f))

  entries_asked : (f : ℕ) (e : Option (Event F)) → is_ask e ≡ true → entries_of (message_sent sites events holding f e) ≡ summary (holding f (site_or e))
  entries_asked f (Some (Ask x)) h = refl
  entries_asked f None h = cc
  entries_asked f (Some e) h = cc

  asked_as : (o : Option ℕ) → from_ask sites events o ≡ true → entries_of (message_or (option_map sent o)) ≡ asked sites events holding o
  asked_as None h = refl
  asked_as (Some f) h = entries_asked f (slice_get events f) h

  carried_as : (o : Option ℕ) → operations_of (message_or (option_map sent o)) ≡ carried sites events holding o
  carried_as None = refl
  carried_as (Some f) = refl

  -- the messages before event number n are those that the events of those numbers sent
  module _ (n : ℕ) (told : (state sites events n).messages ≡ map sent (senders sites events n)) where
    got : (m : ℕ) → slice_get (state sites events n).messages m ≡ option_map sent (slice_get (senders sites events n) m)
    got m = ap (λ l. slice_get l m) told ∙ slice_get-map sent (senders sites events n) m

    -- an event is accepted where nothing refuses it
    pub not_refused : (e : Event F) → is_none (fault_of sites (state sites events n) e) ≡ is_accepted sites events (senders sites events n) (Some e)
    not_refused (Take i (Err f)) = none_at (nat_lt i sites) (Some (FileRefused f)) false refl ∙ and-false (nat_lt i sites)
    not_refused (Reply i m) = none_at (nat_lt i sites) _ _ (ap (λ o. is_none (reply_fault {F = F} o)) (got m) ∙ reply_by (slice_get (senders sites events n) m))
    not_refused (Deliver i m) = none_at (nat_lt i sites) _ _
        (ap (λ o. is_none (deliver_fault {F = F} o)) (got m) ∙ deliver_by (slice_get (senders sites events n) m))
    not_refused e = none_at {F = F} (nat_lt (site_of e) sites) None true refl ∙ and-true (nat_lt (site_of e) sites)

    steps_as : (o : Option (Event F)) → stepped sites (state sites events n) o
        ≡ (if is_accepted sites events (senders sites events n) o then after (state sites events n) o
        else state sites events n)
    steps_as None = refl
    steps_as (Some e) =
        let w : World = state sites events n in
        unless_none (fault_of sites w e) w (effect w e) ∙ ap (λ b. if b then effect w e else w) (not_refused e)

    -- what an accepted event leaves at a site, and what is saved there
    held_as : (o : Option (Event F)) (i : ℕ) → IsMade (holding n i)
        → (after (state sites events n) o).held i ≡ (if (i == site_or o) && is_stop o then saving n i
        else joined (holding n i) (if i == site_or o then given sites events holding n o else set.empty))
    held_as (Some (Take s (Ok parts))) i is = at_place i s false _ (holding n i) (saving n i) _ is
        (λ e. ap (λ j. with_records (holding n j) (records parts)) (sym e)
        ∙ taken_gain (holding n i) (records parts) is)
    held_as (Some (Retire s r)) i is = at_place i s false _ (holding n i) (saving n i) _ is
        (λ e. ap (λ j. with_records (holding n j) (r ∷ [])) (sym e) ∙ taken_gain (holding n i) (r ∷ []) is)
    held_as (Some (Deliver s m)) i is = at_place i s false _ (holding n i) (saving n i) _ is (λ e.
        ap (λ j. joined (holding n j) (operations_of (message_or (slice_get (state sites events n).messages m)))) (sym e)
        ∙ ap (joined (holding n i)) (ap (λ o. operations_of (message_or o)) (got m) ∙ carried_as (slice_get (senders sites events n) m)))
    held_as (Some (Stop s)) i is = at_place i s true _ (holding n i) (saving n i) set.empty is (λ e. ap (saving n) (sym e))
    held_as o i is = sym (nothing (i == site_or o) (holding n i) (saving n i) is)

    saved_as : (o : Option (Event F)) (i : ℕ) → (after (state sites events n) o).saved i ≡ (if (i == site_or o) && is_saving o then holding n i else saving n i)
    saved_as (Some (Ask s)) i = saved_at i s (holding n) (saving n)
    saved_as (Some (Save s)) i = saved_at i s (holding n) (saving n)
    saved_as (Some (Take s (Ok parts))) i = ap (λ b. if b then holding n i else saving n i) (sym (and-false (i == s)))
    saved_as o i = ap (λ b. if b then holding n i else saving n i) (sym (and-false (i == site_or o)))

    one_more : (m : Message) → m ≡ sent n → (state sites events n).messages ++ m ∷ [] ≡ map sent (senders sites events n ++ n ∷ [])
    one_more m e = let parts = map-append sent (senders sites events n) (n ∷ []) in cc

    none_more : (state sites events n).messages ≡ map sent (senders sites events n ++ [])
    none_more = told ∙ ap (map sent) (sym (append-nil _))

    -- and what it sends
    messages_as : (o : Option (Event F)) → slice_get events n ≡ o → is_accepted sites events (senders sites events n) o ≡ true
        → (after (state sites events n) o).messages ≡ map sent (senders sites events n ++ (if is_sending o then n ∷ [] else []))
    messages_as (Some (Full i)) at h = one_more _ (ap (message_sent sites events holding n) (sym at))
    messages_as (Some (Ask i)) at h = one_more _ (ap (message_sent sites events holding n) (sym at))
    messages_as (Some (Reply i m)) at h = one_more _ (
        ap (λ s. Content (delta (holding n i) s)) (ap (λ o. entries_of (message_or o)) (got m)
        ∙ asked_as (slice_get (senders sites events n) m) (and_right (nat_lt i sites) _ h))
        ∙ ap (message_sent sites events holding n) (sym at))
    messages_as (Some (Take i (Ok parts))) at h = none_more
    messages_as o at h = none_more

  pub told_by : (n : ℕ) → (state sites events n).messages ≡ map sent (senders sites events n)
  told_by zero = refl
  told_by (suc n) =
      let w : World = state sites events n in
      let o : Option (Event F) = slice_get events n in
      ap (λ v. v.messages) (steps_as n (told_by n) o)
      ∙ elim (is_accepted sites events (senders sites events n) o) as
      (λ b. is_accepted sites events (senders sites events n) o ≡ b → (if b then after w o else w).messages
      ≡ map sent (senders sites events n ++ (if b && is_sending o then n ∷ [] else []))) [
        | true ↦ messages_as n (told_by n) o refl
        | false ↦ λ _. none_more n (told_by n)
      ] refl

  -- what event number n leaves at a site
  pub held_next : (P : Operations → Type 0) (n i : ℕ) → IsMade (holding n i) → (stops sites events i n ≡ true → P (saving n i))
      → (stops sites events i n ≡ false → P (joined (holding n i) (gift n i))) → P (holding (suc n) i)
  held_next P n i is stop on =
      let o : Option (Event F) = slice_get events n in
      subst P (sym (ap (λ v. v.held i) (steps_as n (told_by n) o)
      ∙ held_if (is_accepted sites events (senders sites events n) o) (i == site_or o) (is_stop o) _ _ i _ is
      (held_as n (told_by n) o i is)))
      (cond_both (stops sites events i n) _ _ P stop on)

  -- and what is saved there
  pub saved_next : (P : Operations → Type 0) (n i : ℕ) → (saves sites events i n ≡ true → P (holding n i))
      → (saves sites events i n ≡ false → P (saving n i)) → P (saving (suc n) i)
  saved_next P n i save on =
      let o : Option (Event F) = slice_get events n in
      subst P (sym (ap (λ v. v.saved i) (steps_as n (told_by n) o)
      ∙ saved_if (is_accepted sites events (senders sites events n) o) (i == site_or o) (is_saving o) _ _ i
      (saved_as n (told_by n) o i)))
      (cond_both (saves sites events i n) _ _ P save on)
