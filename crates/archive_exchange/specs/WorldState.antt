-- The sites and messages of a rehearsal as a `World`, and the effect of an event on them.
use Rattle.std.specs.Prelude.{◌≡◌, ◌<◌, ◌^◌, ℕ, List, Some, length, map, slice_get, refl}
use Rattle.std.specs.Coded.{Coded, code_by, coded×, coded_list, coded_ℕ}
use Rattle.archive_core.specs.Content.{IsContent}
use Rattle.archive_records.specs.Entry.{AreEntries}
use Rattle.archive_records.specs.Text.{written, summary_text}
use Rattle.archive_exchange.specs.World.{World, Message, Content, Summary}
use Rattle.archive_exchange.specs.SiteState.{SiteState, site_state_code, IsWhole}

-- the states of the sites, by number, and the texts that were sent, in their order
pub record RunState : Type 0 where
  pub sites : List SiteState
  pub messages : List (List ℕ)

-- a state is stored as the pair of its fields
abbrev pub run_state_code : Coded RunState
run_state_code =
    code_by (List SiteState × List (List ℕ)) (coded× (coded_list site_state_code) (coded_list (coded_list coded_ℕ)))
    (λ s. (s.sites, s.messages)) (λ p. record { sites = p.0; messages = p.1 }) (λ _. refl)

-- the sites of a rehearsal: each is whole, and their number has 32 bits
pub record AreSites (sites : List SiteState) : Type 0 where
  pub whole : (i : ℕ) (site : SiteState) → slice_get sites i ≡ Some site → IsWhole site
  pub number : length sites < 2 ^ 32

-- the text of a message: of a content or of a summary
abbrev pub message_text : Message → List ℕ
message_text (Content o) = written o
message_text (Summary s) = summary_text s

-- a message is a content, or the summary of one
abbrev pub IsSound : Message → Type 0
IsSound (Content o) = IsContent o
IsSound (Summary s) = AreEntries s

-- a site has the content of this number in the world, and its saved bytes are the text of the saved content
pub record IsSite (w : World) (i : ℕ) (site : SiteState) : Type 0 where
  pub held : site.held ≡ w.held i
  pub saved : site.saved ≡ written (w.saved i)

-- the sites and the texts of the messages are those of the world; each state and message in it is a content or a
-- summary
pub record Represents (sites : List SiteState) (texts : List (List ℕ)) (w : World) : Type 0 where
  pub each : (i : ℕ) (site : SiteState) → slice_get sites i ≡ Some site → IsSite w i site
  pub sent : texts ≡ map message_text w.messages
  pub held : (i : ℕ) → IsContent (w.held i)
  pub saved : (i : ℕ) → IsContent (w.saved i)
  pub sound : (m : ℕ) (message : Message) → slice_get w.messages m ≡ Some message → IsSound message
