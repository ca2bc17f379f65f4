-- What a rehearsal tells: each message that is told is there, and the lines of one site more.
use Rattle.std.proofs.Common.{◌≡◌, ℕ, zero, suc, ◌+◌, ◌<◌, ◌≤◌, List, [], ◌∷◌, ◌++◌, length, map, refl, sym, ap, ◌∙◌}
use Rattle.std.proofs.Common.{subst, arith, add-one, append_assoc, slice_get}
use Rattle.std.specs.Prelude.{All}
use Rattle.std.specs.declared.option.Option.{Option}
use Rattle.std.specs.declared.option.Option.TheVariants.{None, Some}
use Rattle.std.specs.declared.result.Result.TheVariants.{Ok}
use Rattle.std.specs.List.{AllByRecursion, AllZip}
use Rattle.std.proofs.lemmas.List.{append-nil, length-map, length_push}
use Rattle.std.proofs.lemmas.List.Elements.{All-from_recursion}
use Rattle.archive_exchange.specs.World.{World, Event, Take, Full, Ask, Reply, Message, Fault, state, stepped, happens}
use Rattle.archive_exchange.specs.World.{effect, unless, fault_of, answer, refused_or, outcome, outcome_of, outcomes}
use Rattle.archive_exchange.specs.World as model
use Rattle.archive_core.specs.Content.{Operations}
use Rattle.archive_exchange.specs.SiteState.{SiteState}
use Rattle.archive_exchange.specs.WorldState.{Represents, message_text}
use Rattle.archive_exchange.specs.ModelEvent.{ModelEvent, AreSeen, OutcomeIs}
use Rattle.text_input_files.specs.declared.event.Event.{Event as Event_given}
use Rattle.archive_image_admission.specs.declared.fault.TakeFault.{TakeFault}
use Rattle.archive_exchange.specs.declared.outcome.Outcome.{Outcome}
use Rattle.archive_exchange.specs.declared.outcome.Outcome.TheVariants.{Sent}
use Rattle.command_common.proofs.Readers.{all_more}
use Rattle.archive_exchange.specs.EventLines.{IsSentAmong, event_lines}
use Rattle.archive_exchange.specs.Rehearse.{TellsEvents, held_line, site_lines}

-- the message that an answer tells is there, among so many
abbrev IsThere : {F : Type 0} → ℕ → model.Outcome F → Type 0
IsThere k (model.Sent m) = m < k
IsThere k _ = Unit {0}

still_there : {F : Type 0} (k l : ℕ) → k ≤ l → (a : model.Outcome F) → IsThere k a → IsThere l a
still_there k l le (model.Sent m) there = omega (arith, le, there)
still_there k l le a there = tt

all_still : {F : Type 0} (k l : ℕ) → k ≤ l → (xs : List (model.Outcome F)) → AllByRecursion (IsThere k) xs → AllByRecursion (IsThere l) xs
all_still k l le [] all = tt
all_still k l le (x ∷ xs) all = (still_there k l le x all.0, all_still k l le xs all.1)

one_longer : (messages : List Message) (m : Message) → (length messages ≤ length (messages ++ m ∷ [])) × (length messages < length (messages ++ m ∷ []))
one_longer messages m = (omega (arith, length_push messages m), omega (arith, length_push messages m))

same_long : (n : ℕ) → n ≤ n
same_long n = omega arith

-- after an event that is not refused one more message is there, or as many as before, and the one that is told
told_there : {F : Type 0} (w : World) (e : Event F) → (length w.messages ≤ length (effect w e).messages) × IsThere (length (effect w e).messages) (answer w e)
told_there w (Full i) = one_longer w.messages _
told_there w (Ask i) = one_longer w.messages _
told_there w (Reply i m) = one_longer w.messages _
told_there w (Take i (Ok parts)) = (same_long _, tt)
told_there w e = (same_long _, tt)

happened_there : {F : Type 0} (w : World) (e : Event F) (x : Option (Fault F))
    → (length w.messages ≤ length (unless x w (effect w e)).messages)
    × IsThere (length (unless x w (effect w e)).messages) (refused_or x (answer w e))
happened_there w e (Some f) = (same_long _, tt)
happened_there w e None = told_there w e

module _ {F : Type 0} (sites : ℕ) where
  after : (w : World) (before : List (model.Outcome F)) (e : Option (Event F)) → AllByRecursion (IsThere (length w.messages)) before
      → AllByRecursion (IsThere (length (stepped sites w e).messages)) (before ++ outcome_of sites w e)
  after w before None all = subst (AllByRecursion (IsThere (length w.messages))) (sym (append-nil before)) all
  after w before (Some e) all =
      let happened = happened_there w e (fault_of sites w e) in
      all_more (IsThere (length (happens sites w e).messages)) before (outcome sites w e)
      (all_still (length w.messages) (length (happens sites w e).messages) happened.0 before all) happened.1

  answers_there : (events : List (Event F)) (n : ℕ) → AllByRecursion (IsThere (length (state sites events n).messages)) (outcomes sites events n)
  answers_there events zero = tt
  answers_there events (suc n) = after (state sites events n) (outcomes sites events n) (slice_get events n) (answers_there events n)

one_there : (k : ℕ) (told : Outcome) (a : model.Outcome TakeFault) → OutcomeIs told a → IsThere k a → IsSentAmong k told
one_there k (Sent m) a tells there = let t : IsThere {F = TakeFault} k (model.Sent m) = subst (IsThere k) tells there in t
one_there k told a tells there = tt

each_there : (k : ℕ) (told : List Outcome) (answers : List (model.Outcome TakeFault)) → AllZip OutcomeIs told answers
    → AllByRecursion (IsThere k) answers → AllByRecursion (IsSentAmong k) told
each_there k [] [] tells all = tt
each_there k (o ∷ told) (a ∷ answers) tells all = (one_there k o a tells.0 all.0, each_there k told answers tells.1 all.1)
each_there k _ _ tells all = absurd tells

-- each message that the outcomes of a run tell is there in the end
pub all_there : (sites : ℕ) (events : List ModelEvent) (kept : List SiteState) (texts : List (List ℕ)) (told : List Outcome)
    → Represents kept texts (state sites events (length events)) → AllZip OutcomeIs told (outcomes sites events (length events))
    → All (IsSentAmong (length texts)) told
all_there sites events kept texts told shows tells =
    let w = state sites events (length events) in
    let long : length texts ≡ length w.messages = ap length shows.sent ∙ length-map w.messages message_text in
    subst (λ k. All (IsSentAmong k) told) (sym long)
    (All-from_recursion (IsSentAmong (length w.messages)) told
    (each_there (length w.messages) told (outcomes sites events (length events)) tells
    (answers_there sites events (length events))))

-- the lines of no site, and of one more
pub no_sites : (held : ℕ → Operations) (text : List ℕ) → text ≡ text ++ site_lines held 0
unfolding site_lines
no_sites held text = sym (append-nil text)

pub one_site : (w : World) (n : ℕ) (kept : List SiteState) (texts : List (List ℕ)) (site : SiteState) (before text now : List ℕ)
    → Represents kept texts w → slice_get kept n ≡ Some site
    → text ≡ before ++ site_lines w.held n → now ≡ text ++ held_line n site.held
    → now ≡ before ++ site_lines w.held (n + 1)
unfolding site_lines
one_site w n kept texts site before text now shows at text_is now_is =
    rw (now_is, text_is, (shows.each n site at).held, add-one) (append_assoc before (site_lines w.held n) (held_line n (w.held n)))

-- what a run tells, from the lines of its events and those of its sites
pub told_so : (sites : ℕ) (events items : List Event_given) (seen : List ModelEvent) (kept : List SiteState)
    (texts : List (List ℕ)) (told outcomes_now : List Outcome) (none text now : List ℕ)
    → events ≡ items → AreSeen events seen
    → Represents kept texts (state sites seen (length seen)) → AllZip OutcomeIs told (outcomes sites seen (length seen)) → length kept ≡ sites
    → outcomes_now ≡ told → none ≡ [] → text ≡ none ++ event_lines texts 0 outcomes_now
    → ((w : World) → Represents kept texts w → now ≡ text ++ site_lines w.held (length kept))
    → TellsEvents sites items now
told_so sites events items seen kept texts told outcomes_now none text now same are shows tells long told_is none_is text_is now_is =
    let w = state sites seen (length seen) in
    let lines : text ≡ event_lines (map message_text w.messages) 0 told = rw (text_is, none_is, told_is, shows.sent) refl in
    record {
      seen = seen;
      told = told;
      are_seen = subst (λ (es : List Event_given). AreSeen es seen) same are;
      outcomes_are = tells;
      text_is = rw (now_is w shows, lines, long) refl;
    }
