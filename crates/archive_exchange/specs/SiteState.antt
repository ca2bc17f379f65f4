-- The state of a site, and the predicates on an archive's text.
use Rattle.std.specs.Prelude.{◌≡◌, ℕ, List, refl}
use Rattle.std.specs.Ordering.{nat_cmp}
use Rattle.std.specs.Cmp.Lexicographic.{slice_cmp}
use Rattle.std.specs.FinSet as set
use Rattle.std.specs.Coded.{Coded, code_by, coded×, coded_list, coded_ℕ}
use Rattle.archive_core.specs.Content.{Operations, IsContent, IsBelow, joined}
use Rattle.archive_records.specs.Entry.{AreEntries}
use Rattle.archive_records.specs.Text.{written, IsArchiveOf, summary_text}
use Rattle.archive_records.specs.Fault.{IsFault, IsSummaryFault, IsOfText}
use Rattle.archive_core.specs.Summary.{Entries, delta}
use Rattle.archive_exchange.specs.declared.fault.DeliverFault.{DeliverFault}
use Rattle.archive_exchange.specs.declared.fault.DeliverFault.TheVariants.{Refused, OutOfMemory}
use Rattle.archive_exchange.specs.declared.fault.ReplyFault.{ReplyFault}
use Rattle.archive_exchange.specs.declared.fault.ReplyFault.TheVariants.{NotASummary, OutOfMemory as No_memory}

-- the state of a site: the content of its archive, and the bytes that it saved
pub record SiteState : Type 0 where
  pub held : set.FinSet (slice_cmp nat_cmp)
  pub saved : List ℕ

-- a state is stored as the pair of its fields
abbrev pub site_state_code : Coded SiteState
site_state_code =
    code_by (set.FinSet (slice_cmp nat_cmp) × List ℕ) (coded× (set.code (coded_list coded_ℕ)) (coded_list coded_ℕ))
    (λ k. (k.held, k.saved)) (λ p. record { held = p.0; saved = p.1 }) (λ _. refl)

-- the text is the one that is written for this content; the laws of texts say that no other content has it
pub record IsArchiveTextOf (text : List ℕ) (o : Operations) : Type 0 where
  pub content : IsContent o
  pub is : text ≡ written o

-- the text has this content: it is written for it, or has version 1; the laws of texts say that it has no other
pub record Gives (text : List ℕ) (o : Operations) : Type 0 where
  pub content : IsContent o
  pub is : IsArchiveOf o text

-- the text is an archive's
abbrev pub IsArchiveText : List ℕ → Type 0
IsArchiveText text = (o : Operations) × Gives text o

-- a site is whole: it holds a content, and the saved bytes are the text that is written for one
pub record IsWhole (site : SiteState) : Type 0 where
  pub held : IsContent site.held
  pub saved : (o : Operations) × IsArchiveTextOf site.saved o

-- a content between an old one and a new one: above the old, and below the new
pub record IsBetween (old mid new : Operations) : Type 0 where
  pub content : IsContent mid
  pub above_old : IsBelow old mid
  pub below_new : IsBelow mid new

-- why a text is not joined: it is not an archive's, with this fault; or memory ran out
abbrev pub IsDeliverFault : List ℕ → DeliverFault → Type 0
IsDeliverFault text (Refused fault) = IsFault text fault × IsOfText fault.kind × (IsArchiveText text → ⊥)
IsDeliverFault text OutOfMemory = Unit {0}

-- the content of the text was joined, and the saved bytes are unchanged
pub record HasJoined (text : List ℕ) (old new : SiteState) : Type 0 where
  pub message : Operations
  pub gives : Gives text message
  pub held : new.held ≡ joined old.held message
  pub saved : new.saved ≡ old.saved

-- some of the text's operations may have been joined: the content is between the old one and the join; and the saved
-- bytes are unchanged
pub record HasJoinedInPart (text : List ℕ) (old new : SiteState) : Type 0 where
  pub message : Operations
  pub gives : Gives text message
  pub held : IsBetween old.held new.held (joined old.held message)
  pub saved : new.saved ≡ old.saved

-- the text is a summary of these entries
pub record Names (text : List ℕ) (s : Entries) : Type 0 where
  pub entries : AreEntries s
  pub is : text ≡ summary_text s

-- the text is a summary
abbrev pub IsSummaryText : List ℕ → Type 0
IsSummaryText text = (s : Entries) × Names text s

-- why a text has no reply: it is not a summary, with this fault; or memory ran out
abbrev pub IsReplyFault : List ℕ → ReplyFault → Type 0
IsReplyFault text (NotASummary fault) = IsSummaryFault text fault × IsOfText fault.kind × (IsSummaryText text → ⊥)
IsReplyFault text No_memory = Unit {0}

-- the message is the text of exactly one summary, and the reply is the text of the operations that it lacks
pub record RepliesTo (message : List ℕ) (held : Operations) (reply : List ℕ) : Type 0 where
  pub named : Entries
  pub names : Names message named
  pub alone : (other : Entries) → Names message other → named ≡ other
  pub is : reply ≡ written (delta held named)
