-- Keys that are refused while the others are answered.
use Rattle.std.specs.Prelude.{◌≡◌, ◌⊎◌, ℕ, Bool, true, false, List, [], ◌∷◌, ◌++◌, Option, Some, None, Contains, map}
use Rattle.std.specs.Prelude.{codes, if◌then◌else◌, slice_get, take}
use Rattle.std.specs.List.{flat_map, list_all, list_any}
use Rattle.text_values.specs.Words.{address_text}
use Rattle.archive_core.specs.Content.{Operations}
use Rattle.archive_core.specs.Key.{key_bytes}
use Rattle.archive_core.specs.declared.keys.SliceKey.{SliceKey}
use Rattle.archive_core.specs.declared.lookup.Where.{Where}
use Rattle.text_reports.specs.Answers.{answer_lines}
use Rattle.text_reports.specs.Report.{line}
use Rattle.text_reports.specs.Rows.{key_text}
use Rattle.index_format.specs.Text.{placed_in}
use Rattle.command_common.specs.FaultTexts.{command_fault_text}
use Rattle.command_common.specs.Inputs.{EachUnfailed, Gives, Reader}
use Rattle.command_common.specs.declared.faults.CommandFault.TheVariants.{Input}
use Rattle.command_common.specs.declared.faults.InputName.{InputName}
use Rattle.command_common.specs.declared.faults.InputName.TheVariants.{Index}
use Rattle.command_common.specs.declared.faults.Status.{Status}
use Rattle.command_common.specs.declared.faults.Status.TheVariants.{Done, Partial, SomeRefused}
use Rattle.command_common.specs.declared.faults.Why.{Why}
use Rattle.command_common.specs.declared.faults.Why.TheVariants.{Stale}
use Rattle.command_queries.specs.Symbolicate.{Answered, is_symbol}
use Rattle.command_given_indexes.specs.Prefixes.{IsUnnamedUnder}
use Rattle.command_given_indexes.specs.Together.{AreNamedBy}
use Rattle.index_lookup.specs.Among.{AreAnsweringAmong, AreTied, EntryAt}
use Rattle.text_input_files.specs.declared.frame.Frame.{Frame}
use Rattle.command_frames.specs.Asking.{HavePlaces, IsChanged, IsLineless}

-- a refused key, with its fault
pub record KeyRefusal : Type 0 where
  pub key : SliceKey
  pub at : InputName
  pub why : Why

-- the lines of refusals: the key, and the text of the fault
abbrev pub refusal_lines : List KeyRefusal → List ℕ
refusal_lines refusals =
    flat_map (λ refusal. line (key_text refusal.key ++ codes " refused "
    ++ command_fault_text (Input refusal.at refusal.why))) refusals

-- A key of frames is refused for a table: the first one, among those of the entries that answer under it, that does not
-- answer the addresses of its frames. It was changed, or has no lines, which are wanted. No device failed.
pub record IsRefusedByTable {I : Type 0} (lines : Bool) (frames : List Frame) (indexes : List (Reader I))
    (all : List (List (List ℕ))) (refusal : KeyRefusal) : Type 0 where
  pub places : List Where
  pub of_frames : HavePlaces frames (key_bytes refusal.key) places
  pub answering : List EntryAt
  pub are : AreAnsweringAmong (key_bytes refusal.key) all answering
  pub untold : IsChanged lines indexes places answering refusal.at refusal.why
      ⊎ IsLineless lines indexes places answering refusal.at refusal.why

-- Among the entries under these bytes, this one of this index is the first whose record is not in its archive.
pub record IsStaleAt {P : Type 0} (archives : List (Reader P)) (all : List (List (List ℕ))) (key : List ℕ)
    (at : InputName) (why : Why) : Type 0 where
  pub number : ℕ
  pub groups : List (List Operations)
  pub before : AreNamedBy (key ∷ []) (take number archives) (take number all) groups
  pub archive : Reader P
  pub archive_is : slice_get archives number ≡ Some archive
  pub entries : List (List ℕ)
  pub entries_are : slice_get all number ≡ Some entries
  pub entry : ℕ
  pub at_is : at ≡ Index number
  pub why_is : why ≡ Stale (Some entry)
  pub stale : Gives archive (λ text. IsUnnamedUnder (key ∷ []) (placed_in entries) text entry)

-- A key is refused for a slice: two are tied under it, and one of those that are read for it is no longer in its
-- archive. No device failed.
pub record IsRefusedBySlice {P : Type 0} (archives : List (Reader P)) (all : List (List (List ℕ)))
    (refusal : KeyRefusal) : Type 0 where
  pub tied : AreTied (key_bytes refusal.key) all
  pub stale : IsStaleAt archives all (key_bytes refusal.key) refusal.at refusal.why
  pub unfailed : EachUnfailed archives

-- a key of frames is refused for a table, or for a slice if two are tied
abbrev pub IsKeyRefused : {I P : Type 0} → Bool → List Frame → List (Reader I) → List (Reader P)
    → List (List (List ℕ)) → KeyRefusal → Type 0
IsKeyRefused lines frames indexes archives all refusal =
    IsRefusedByTable lines frames indexes all refusal ⊎ IsRefusedBySlice archives all refusal

-- a reply to an address: its answer, or none if the key is refused
pub record Reply : Type 0 where
  pub address : ℕ
  pub answered : Option Answered

-- the lines of a reply
abbrev pub reply_text : ℕ → Option Answered → List ℕ
reply_text address None = line (address_text address ++ codes " !")
reply_text address (Some row) = answer_lines row.address row.answer row.frames

-- the lines of replies
abbrev pub replies_text : List Reply → List ℕ
replies_text replies = flat_map (λ reply. reply_text reply.address reply.answered) replies

-- there is no answer
abbrev pub is_refused : Option Answered → Bool
is_refused None = true
is_refused (Some row) = false

-- the answer is one symbol
abbrev pub is_found : Option Answered → Bool
is_found None = false
is_found (Some row) = is_symbol row.answer

-- refused if a reply is, otherwise done if each answer is one symbol
abbrev pub replies_status : List Reply → Status
replies_status replies =
    if list_any (λ reply. is_refused reply.answered) replies then SomeRefused
    else if list_all (λ reply. is_found reply.answered) replies then Done else Partial

-- one of these refusals is for a key with these bytes
abbrev pub AreRefusing : List KeyRefusal → List ℕ → Type 0
AreRefusing refusals key = Contains (map (λ refusal. key_bytes refusal.key) refusals) key
