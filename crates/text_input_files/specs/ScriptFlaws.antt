-- The flaw of the first faulty line of a script.
use Rattle.std.specs.Prelude.{ℕ, ◌==◌, Bool, ◌||◌, nat_lt, if◌then◌else◌, List, [], ◌∷◌, codes, length}
use Rattle.std.specs.Prelude.{Option, Some, None}
use Rattle.std.specs.Str.{bytes_eq}
use Rattle.uuid.specs.Text.{parsed}
use Rattle.archive_core.specs.declared.keys.ArchKey.{ArchKey}
use Rattle.text_values.specs.Flaws.{line_flaw}
use Rattle.text_values.specs.Lines.{Field, Line, fields}
use Rattle.text_values.specs.Words.{arch_of}
use Rattle.text_values.specs.declared.flaws.LineFlaw.{LineFlaw}
use Rattle.text_input_files.specs.Numbers.{number_flaw, number_of}
use Rattle.text_input_files.specs.declared.script_flaws.ScriptFlaw.{ScriptFlaw}
use Rattle.text_input_files.specs.declared.script_flaws.ScriptFlaw.TheVariants as flaw
use Rattle.text_input_files.specs.declared.numbers.NumberFlaw.{NumberFlaw}
use Rattle.text_input_files.specs.declared.numbers.NumberFlaw.TheVariants.{TooLarge}
use Rattle.text_input_files.specs.declared.script.ScriptFault.{ScriptFault}
use Rattle.text_input_files.specs.declared.script.ScriptFault.TheVariants.{NoSites, BadEvent, TooManyEvents}

-- whether this is the name of an event with a site alone, or with a site and one more field
abbrev pub is_plain : Field → Bool
is_plain word = bytes_eq word (codes "full") || (bytes_eq word (codes "ask")
    || (bytes_eq word (codes "save") || bytes_eq word (codes "stop")))

abbrev pub is_about_message : Field → Bool
is_about_message word = bytes_eq word (codes "reply") || bytes_eq word (codes "deliver")

-- the number of fields after the name of an event
abbrev pub count_after : Field → Option ℕ
count_after word =
    if is_plain word then Some 1
    else if bytes_eq word (codes "take") || is_about_message word then Some 2
    else if bytes_eq word (codes "retire") then Some 4
    else None

-- the first of the fields UUID and ARCH that is not valid; if both are valid it is DIGEST
abbrev pub key_flaw : Option (List ℕ) → Option ArchKey → ScriptFlaw
key_flaw None _ = flaw.Uuid
key_flaw (Some _) None = flaw.Arch
key_flaw (Some _) (Some _) = flaw.Digest

-- the flaw of the one field after an event's name and site
abbrev pub one_flaw : Field → Field → ScriptFlaw
one_flaw word field = if bytes_eq word (codes "take") then flaw.Bytes else flaw.Message (number_flaw field)

-- the flaw of the fields after an event's name and site: of the only one, or of those of a slice
abbrev pub flaw_after_site : Field → List Field → ScriptFlaw
flaw_after_site word [] = flaw.FieldCount
flaw_after_site word (field ∷ []) = one_flaw word field
flaw_after_site word (uuid ∷ arch ∷ _) = key_flaw (parsed uuid) (arch_of arch)

-- the flaw of a site's field, or else that of the fields after it
abbrev pub site_or : Option ℕ → NumberFlaw → ScriptFlaw → ScriptFlaw
site_or None of_site _ = flaw.Site of_site
site_or (Some _) _ behind = behind

abbrev pub site_flaw : Field → List Field → ScriptFlaw
site_flaw word [] = flaw.FieldCount
site_flaw word (site ∷ behind) = site_or (number_of site) (number_flaw site) (flaw_after_site word behind)

-- the flaw of the fields after an event's name, for which this number of fields is required
abbrev pub counted_flaw : Field → Option ℕ → List Field → ScriptFlaw
counted_flaw word None behind = flaw.Word
counted_flaw word (Some count) behind = if length behind == count then site_flaw word behind else flaw.FieldCount

-- the flaw of fields that are no event
abbrev pub event_flaw : List Field → ScriptFlaw
event_flaw [] = flaw.Word
event_flaw (word ∷ behind) = counted_flaw word (count_after word) behind

-- the flaw of N in `sites N`: it is no number, or above 64, or else 0
abbrev pub count_flaw : Option ℕ → NumberFlaw → ScriptFlaw
count_flaw None of_number = flaw.SiteCount of_number
count_flaw (Some n) _ = if nat_lt 64 n then flaw.SiteCount TooLarge else flaw.Sites

-- the flaw of fields that are no `sites N`
abbrev pub sites_flaw : List Field → ScriptFlaw
sites_flaw (word ∷ number ∷ []) =
    if bytes_eq word (codes "sites") then count_flaw (number_of number) (number_flaw number) else flaw.Sites
sites_flaw _ = flaw.Sites

-- the flaw of a whole line, or else that of its fields
abbrev pub flaw_or : Option LineFlaw → ScriptFlaw → ScriptFlaw
flaw_or (Some of_line) _ = flaw.Line of_line
flaw_or None of_fields = of_fields

-- the flaw of a line with this fault: a line too many is an event, and an empty line does not count
abbrev pub script_flaw : ScriptFault → Line → Option ScriptFlaw
script_flaw fault [] = None
script_flaw NoSites (first ∷ rest) =
    Some (flaw_or (line_flaw (first ∷ rest)) (sites_flaw (fields (first ∷ rest))))
script_flaw BadEvent (first ∷ rest) =
    Some (flaw_or (line_flaw (first ∷ rest)) (event_flaw (fields (first ∷ rest))))
script_flaw TooManyEvents (first ∷ rest) = None
