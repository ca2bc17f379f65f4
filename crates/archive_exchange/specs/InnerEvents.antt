-- The effect of an event on a site, on all sites and on a run: definitions for private functions. No public contract
-- uses them.
use Rattle.std.specs.Prelude.{◌≡◌, ℕ, true, suc, ◌≤◌, List, Some, length, slice_get, slice_set}
use Rattle.std.specs.List.{AllZip}
use Rattle.std.specs.FinSet as set
use Rattle.archive_core.specs.Record.{IsRecord}
use Rattle.archive_exchange.specs.World as model
use Rattle.archive_exchange.specs.World.{World, Event, site_of, happens, outcome, state, outcomes}
use Rattle.archive_exchange.specs.Reached.{is_accepted, senders}
use Rattle.archive_exchange.specs.Issued.{issues}
use Rattle.archive_exchange.specs.SiteState.{SiteState}
use Rattle.archive_exchange.specs.ModelEvent.{OutcomeIs}
use Rattle.archive_exchange.specs.WorldState.{Represents}
use Rattle.archive_exchange.specs.declared.outcome.Outcome.{Outcome}
use Rattle.archive_image_admission.specs.declared.fault.TakeFault.{TakeFault}

-- a file in the definitions of sites
abbrev pub SeenFile : Type 0
SeenFile = model.File TakeFault

-- the operations that an event issues are records
abbrev pub IsRecorded : model.Event TakeFault → Type 0
IsRecorded seen = (r : List ℕ) → set.contains (issues (Some seen)) r ≡ true → IsRecord r

-- The event happens at a site: in each world that the sites represent, with this one at the event's number, the sites
-- afterwards are the same with the new state of this one, and this is the outcome.
pub record Follows (e : Event TakeFault) (old new : SiteState) (texts later : List (List ℕ))
    (answer : Outcome) : Type 0 where
  pub shows : (sites : List SiteState) (w : World) → slice_get sites (site_of e) ≡ Some old → Represents sites texts w
      → Represents (slice_set sites (site_of e) new) later (happens (length sites) w e)
  pub tells : (sites : List SiteState) (w : World) → slice_get sites (site_of e) ≡ Some old → Represents sites texts w
      → OutcomeIs answer (outcome (length sites) w e)

-- The event happens among sites: in each world that they represent, these are the sites afterwards, and this is the
-- outcome.
pub record Happens (e : Event TakeFault) (sites others : List SiteState) (texts later : List (List ℕ))
    (answer : Outcome) : Type 0 where
  pub shows : (w : World) → Represents sites texts w → Represents others later (happens (length sites) w e)
  pub tells : (w : World) → Represents sites texts w → OutcomeIs answer (outcome (length sites) w e)

-- The run so far: the sites and messages represent the state after the first n events, the outcomes are theirs, and the
-- operations that accepted events among them issued are records.
pub record HasRun (sites : ℕ) (events : List (Event TakeFault)) (n : ℕ) (kept : List SiteState) (texts : List (List ℕ))
    (told : List Outcome) : Type 0 where
  pub shows : Represents kept texts (state sites events n)
  pub tells : AllZip OutcomeIs told (outcomes sites events n)
  pub recorded : (k : ℕ) (r : List ℕ) → suc k ≤ n
      → is_accepted sites events (senders sites events k) (slice_get events k) ≡ true
      → set.contains (issues (slice_get events k)) r ≡ true → IsRecord r
