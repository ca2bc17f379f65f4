-- The report of `rehearse` for a script.
use Rattle.std.specs.Prelude.{◌≡◌, ℕ, zero, suc, List, [], ◌++◌, Ok, length, map}
use Rattle.std.specs.List.{AllZip}
use Rattle.sha2.specs.Sha256.{sha256}
use Rattle.archive_core.specs.Content.{Operations}
use Rattle.archive_records.specs.Text.{written}
use Rattle.archive_exchange.specs.World.{World, state, outcomes}
use Rattle.archive_exchange.specs.WorldState.{message_text}
use Rattle.archive_exchange.specs.ModelEvent.{ModelEvent, AreSeen, OutcomeIs}
use Rattle.text_input_files.specs.declared.event.Event.{Event}
use Rattle.archive_exchange.specs.declared.outcome.Outcome.{Outcome}
use Rattle.text_input_files.specs.Script.{acts, script_of}
use Rattle.archive_exchange.specs.EventLines.{event_lines, site_line}
use Rattle.command_common.specs.declared.faults.Status.{Status}
use Rattle.command_common.specs.declared.faults.Status.TheVariants.{Done}
use Rattle.command_common.specs.Ends.{Query}
use Rattle.command_common.specs.Inputs.{Reader, Gives, Unfailed, IsRefusedScript}
use Rattle.command_common.specs.Outputs.{sizes_of}

-- the line of a site with this content
abbrev pub held_line : ℕ → Operations → List ℕ
held_line number o = site_line number (sizes_of o) (record { 0 = sha256 (written o) })

-- the lines of the first n sites
unfoldable pub site_lines : (ℕ → Operations) → ℕ → List ℕ
site_lines held zero = []
site_lines held (suc n) = site_lines held n ++ held_line n (held n)

-- a line for each event with its outcome, and then a line for each site of the world after the events
abbrev pub rehearsal_lines : ℕ → List Outcome → World → List ℕ
rehearsal_lines sites told w = event_lines (map message_text w.messages) 0 told ++ site_lines w.held sites

-- The events are carried out on this number of sites, which begin empty: these outcomes are theirs, and the text has
-- their lines, and those of the sites after all events.
pub record TellsEvents (sites : ℕ) (events : List Event) (text : List ℕ) : Type 0 where
  pub seen : List ModelEvent
  pub told : List Outcome
  pub are_seen : AreSeen events seen
  pub outcomes_are : AllZip OutcomeIs told (outcomes sites seen (length seen))
  pub text_is : text ≡ rehearsal_lines sites told (state sites seen (length seen))

-- SCRIPT has this number of sites and these events, and the text has their lines, also if events were refused.
pub record MakesRehearsed {S : Type 0} (script : Reader S) (status : Status) (text : List ℕ) : Type 0 where
  pub sites : ℕ
  pub events : List Event
  pub script_is : Gives script (λ bytes. script_of bytes ≡ Ok (sites, acts events))
  pub tells : TellsEvents sites events text
  pub status_is : status ≡ Done

-- `rehearse`, for this script
abbrev pub rehearse : {S : Type 0} → Reader S → Query
rehearse script = record {
  Makes = MakesRehearsed script;
  Refuses = IsRefusedScript script;
  Unfailed = Unfailed script;
}
