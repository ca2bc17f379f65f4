-- The lines of `rehearse`.
use Rattle.std.specs.Prelude.{ℕ, ◌+◌, ◌<◌, List, [], ◌∷◌, ◌++◌, Bool, true, false, ⊤, codes, length, slice_index_or}
use Rattle.std.specs.List.{count_by}
use Rattle.std.specs.Fmt.{decimal}
use Rattle.archive_core.specs.declared.keys.Digest.{Digest}
use Rattle.archive_records.specs.declared.writing.Sizes.{Sizes}
use Rattle.archive_exchange.specs.declared.outcome.EventFault.{EventFault}
use Rattle.archive_exchange.specs.declared.outcome.EventFault.TheVariants.{NoSite, NoMessage, NotASummary}
use Rattle.archive_exchange.specs.declared.outcome.EventFault.TheVariants.{Refused as TextRefused, File}
use Rattle.archive_exchange.specs.declared.outcome.Outcome.{Outcome}
use Rattle.archive_exchange.specs.declared.outcome.Outcome.TheVariants.{Took, Retired, Sent, Delivered}
use Rattle.archive_exchange.specs.declared.outcome.Outcome.TheVariants.{Saved, Stopped, Refused}
use Rattle.archive_image_admission.specs.declared.taken.Taken.{Taken}
use Rattle.archive_image_admission.specs.declared.taken.Taken.TheVariants.{Added, Known, Skipped}
use Rattle.text_values.specs.Words.{digest_text}
use Rattle.text_reports.specs.Report.{line}
use Rattle.text_reports.specs.Texts.{called, record_fault_text, take_fault_text}

-- the text for why an event is refused
unfoldable pub event_fault_text : EventFault → List ℕ
event_fault_text NoSite = codes "NoSite"
event_fault_text NoMessage = codes "NoMessage"
event_fault_text (NotASummary fault) = called (codes "NotASummary") (record_fault_text fault)
event_fault_text (TextRefused fault) = called (codes "Refused") (record_fault_text fault)
event_fault_text (File fault) = called (codes "File") (take_fault_text fault)

-- whether a slice of a file is new; was known, present or covered by a retirement; or is skipped
abbrev pub is_added : Taken → Bool
is_added (Added _ _) = true
is_added (Known _ _) = false
is_added Skipped = false

abbrev pub is_known : Taken → Bool
is_known (Added _ _) = false
is_known (Known _ _) = true
is_known Skipped = false

abbrev pub is_skipped : Taken → Bool
is_skipped (Added _ _) = false
is_skipped (Known _ _) = false
is_skipped Skipped = true

-- the numbers of slices of a file that are new, were known, and are skipped
unfoldable pub took_text : List Taken → List ℕ
took_text rows =
    codes "took " ++ decimal (count_by is_added rows) ++ codes " " ++ decimal (count_by is_known rows)
    ++ codes " " ++ decimal (count_by is_skipped rows)

-- a message that was sent: its number, and its size in bytes
unfoldable pub sent_text : ℕ → ℕ → List ℕ
sent_text message bytes = codes "sent " ++ decimal message ++ codes " " ++ decimal bytes

-- the text for the outcome of an event, with the messages that were sent
unfoldable pub outcome_text : List (List ℕ) → Outcome → List ℕ
outcome_text messages (Took rows) = took_text rows.items
outcome_text messages (Retired true) = codes "retired"
outcome_text messages (Retired false) = codes "known"
outcome_text messages (Sent message) = sent_text message (length (slice_index_or messages message []))
outcome_text messages Delivered = codes "delivered"
outcome_text messages Saved = codes "saved"
outcome_text messages Stopped = codes "stopped"
outcome_text messages (Refused fault) = codes "refused " ++ event_fault_text fault

-- the message of an outcome that sent one is among this number of messages
abbrev pub IsSentAmong : ℕ → Outcome → Type 0
IsSentAmong messages (Sent message) = message < messages
IsSentAmong messages _ = ⊤

-- a line for each event, with its number, counted from this one
unfoldable pub event_lines : List (List ℕ) → ℕ → List Outcome → List ℕ
event_lines messages number [] = []
event_lines messages number (outcome ∷ outcomes) =
    line (decimal number ++ codes " " ++ outcome_text messages outcome) ++ event_lines messages (number + 1) outcomes

-- a site: its number, the number of its records, the number of bytes of their text, and the SHA-256 of that text
abbrev pub site_line : ℕ → Sizes → Digest → List ℕ
site_line number sizes digest =
    line (codes "site " ++ decimal number ++ codes " " ++ decimal sizes.records ++ codes " " ++ decimal sizes.bytes
    ++ codes " " ++ digest_text digest)
