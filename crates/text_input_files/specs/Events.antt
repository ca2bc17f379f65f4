-- The events in the lines of a script.
use Rattle.std.specs.Prelude.{ℕ, ◌&&◌, nat_le, nat_lt, if◌then◌else◌, List, [], ◌∷◌, codes, length}
use Rattle.std.specs.Prelude.{Option, Some, None}
use Rattle.std.specs.Result.{result_ok}
use Rattle.std.specs.Str.{bytes_eq}
use Rattle.hex.specs.Hex.{decode_of}
use Rattle.uuid.specs.Text.{parsed}
use Rattle.archive_core.specs.declared.keys.ArchKey.{ArchKey}
use Rattle.archive_core.specs.declared.keys.Digest.{Digest}
use Rattle.archive_core.specs.declared.keys.SliceKey.{SliceKey}
use Rattle.text_input_files.specs.declared.event.Event.{Event}
use Rattle.text_input_files.specs.declared.event.Event.TheVariants as event
use Rattle.text_values.specs.Words.{arch_of, digest_of}
use Rattle.text_values.specs.Lines.{Field, Line, fields}
use Rattle.text_input_files.specs.Numbers.{number_of}

-- ---- the event of a line

-- an event, its file as bytes
pub data Act : Type 0 where
  Take : (site : ℕ) (file : List ℕ) → Act
  Retire : (site : ℕ) (key : SliceKey) (digest : Digest) → Act
  Full : (site : ℕ) → Act
  Ask : (site : ℕ) → Act
  Reply : (site message : ℕ) → Act
  Deliver : (site message : ℕ) → Act
  Save : (site : ℕ) → Act
  Stop : (site : ℕ) → Act

abbrev pub act_of : Event → Act
act_of (event.Take site file) = Take site file.items
act_of (event.Retire site key digest) = Retire site key digest
act_of (event.Full site) = Full site
act_of (event.Ask site) = Ask site
act_of (event.Reply site message) = Reply site message
act_of (event.Deliver site message) = Deliver site message
act_of (event.Save site) = Save site
act_of (event.Stop site) = Stop site

-- ---- the event by the fields of a line and their number

-- a file: one or more pairs of hex digits, in either case
abbrev pub file_of : Field → Option (List ℕ)
file_of field = if nat_lt 0 (length field) then result_ok (decode_of field) else None

-- `full SITE`, `ask SITE`, `save SITE`, `stop SITE`
abbrev pub plain_act : Field → ℕ → Option Act
plain_act word site =
    if bytes_eq word (codes "full") then Some (Full site)
    else if bytes_eq word (codes "ask") then Some (Ask site)
    else if bytes_eq word (codes "save") then Some (Save site)
    else if bytes_eq word (codes "stop") then Some (Stop site)
    else None

-- `take SITE BYTES`
abbrev pub take_act : ℕ → Option (List ℕ) → Option Act
take_act site (Some file) = Some (Take site file)
take_act site None = None

-- `reply SITE MESSAGE`, `deliver SITE MESSAGE`
abbrev pub message_act : Field → ℕ → Option ℕ → Option Act
message_act word site (Some message) =
    if bytes_eq word (codes "reply") then Some (Reply site message)
    else if bytes_eq word (codes "deliver") then Some (Deliver site message)
    else None
message_act word site None = None

-- `retire SITE UUID ARCH DIGEST`
abbrev pub retire_act : ℕ → Option (List ℕ) → Option ArchKey → Option Digest → Option Act
retire_act site (Some uuid) (Some arch) (Some digest) = Some (Retire site (record { uuid = uuid; arch = arch }) digest)
retire_act site _ _ _ = None

-- the event with this name, site and fields after them
abbrev pub act_at : Field → ℕ → List Field → Option Act
act_at word site [] = plain_act word site
act_at word site (field ∷ []) =
    if bytes_eq word (codes "take") then take_act site (file_of field)
    else message_act word site (number_of field)
act_at word site (uuid ∷ arch ∷ digest ∷ []) =
    if bytes_eq word (codes "retire") then retire_act site (parsed uuid) (arch_of arch) (digest_of digest)
    else None
act_at word site _ = None

abbrev pub site_act : Field → Option ℕ → List Field → Option Act
site_act word (Some site) behind = act_at word site behind
site_act word None behind = None

abbrev pub word_act : Field → List Field → Option Act
word_act word (site ∷ behind) = site_act word (number_of site) behind
word_act word [] = None

abbrev pub fields_act : List Field → Option Act
fields_act (word ∷ behind) = word_act word behind
fields_act [] = None

-- the event of a line, if it has one
abbrev pub line_act : Line → Option Act
line_act line = fields_act (fields line)

-- ---- the sites

-- a number from 1 to 64
abbrev pub within_sites : Option ℕ → Option ℕ
within_sites (Some n) = if nat_le 1 n && nat_le n 64 then Some n else None
within_sites None = None

-- `sites N`, N from 1 to 64
abbrev pub fields_sites : List Field → Option ℕ
fields_sites (word ∷ number ∷ []) = if bytes_eq word (codes "sites") then within_sites (number_of number) else None
fields_sites _ = None

-- the number of sites in a line, if it has one
abbrev pub line_sites : Line → Option ℕ
line_sites line = fields_sites (fields line)
