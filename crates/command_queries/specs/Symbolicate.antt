-- The report of `symbolicate` over archives.
use Rattle.std.specs.Prelude.{◌≡◌, ℕ, List, [], ◌∷◌, Bool, true, false, Option, Some, None, map, if◌then◌else◌}
use Rattle.std.specs.List.{AllByRecursion, flat_map, list_all}
use Rattle.archive_core.specs.Content.{Operations}
use Rattle.archive_core.specs.Lookup.{answer_view}
use Rattle.archive_core.specs.declared.keys.SliceKey.{SliceKey}
use Rattle.archive_core.specs.declared.lookup.Answer.{Answer}
use Rattle.archive_core.specs.declared.lookup.Answer.TheVariants.{Unknown, NoSymbol, Symbol, Conflict}
use Rattle.archive_core.specs.declared.lookup.Where.{Where}
use Rattle.archive_core.specs.declared.lookup.Where.TheVariants.{File, Loaded}
use Rattle.dwarf_source_frames.specs.Frames.{FrameRecord}
use Rattle.text_reports.specs.Answers.{answer_lines}
use Rattle.command_common.specs.declared.faults.Status.{Status}
use Rattle.command_common.specs.declared.faults.Status.TheVariants.{Done, Partial}
use Rattle.command_common.specs.Archives.{AreRefused, AreUnfailed, HoldTogether}
use Rattle.command_common.specs.Ends.{Query}
use Rattle.command_common.specs.Inputs.{Reader}
use Rattle.command_queries.specs.Slices.{IsAnsweringRow, WithSlices}
use Rattle.command_queries.specs.SourceFrames.{IsAnswerWithFrames}

-- the address of an address argument: in the loaded image, if the words have its load address, and otherwise in its
-- file
abbrev pub asked_of : Option ℕ → ℕ → Where
asked_of None address = File address
asked_of (Some load) address = Loaded load address

-- the answer is one symbol
abbrev pub is_symbol : Answer → Bool
is_symbol Unknown = false
is_symbol NoSymbol = false
is_symbol (Symbol _) = true
is_symbol (Conflict _) = false

-- an address argument, its answer, and the frames of the slices that answer
pub record Answered : Type 0 where
  pub address : ℕ
  pub answer : Answer
  pub frames : List (List FrameRecord)

-- the answer is that of the content for the address, and so are the frames, if lines are wanted
abbrev pub IsAnswered : Operations → SliceKey → Option ℕ → Bool → Answered → Type 0
IsAnswered content key load lines row =
    IsAnswerWithFrames content key lines (asked_of load row.address) (answer_view row.answer) row.frames

-- done if each answer is one symbol
abbrev pub answers_status : List Answered → Status
answers_status rows = if list_all (λ row. is_symbol row.answer) rows then Done else Partial

-- the lines of the answers
abbrev pub answers_text : List Answered → List ℕ
answers_text rows = flat_map (λ row. answer_lines row.address row.answer row.frames) rows

-- the answers of a content for addresses, one for each and in order: the status, and the lines
pub record TellsAddresses (content : Operations) (key : SliceKey) (load : Option ℕ) (lines : Bool)
    (addresses : List ℕ) (status : Status) (text : List ℕ) : Type 0 where
  pub rows : List Answered
  pub addresses_are : map (λ row. row.address) rows ≡ addresses
  pub answered : AllByRecursion (IsAnswered content key load lines) rows
  pub status_is : status ≡ answers_status rows
  pub text_is : text ≡ answers_text rows

-- the same, followed, if they are wanted, by the lines of the slices that answer
abbrev pub TellsAddressesWith : Operations → SliceKey → Option ℕ → Bool → Bool → List ℕ → Status → List ℕ → Type 0
TellsAddressesWith content key load lines slices addresses status text =
    WithSlices slices (TellsAddresses content key load lines addresses) (IsAnsweringRow content (key ∷ [])) (key ∷ [])
    status text

-- ARCHIVE and the others are the texts of contents, and these are the answers of their join for the addresses.
abbrev pub MakesAnswered : {R S : Type 0} → Reader R → List (Reader S) → SliceKey → Option ℕ → Bool → Bool → List ℕ
    → Status → List ℕ → Type 0
MakesAnswered archive others key load lines slices addresses status text =
    HoldTogether archive others (λ o. TellsAddressesWith o key load lines slices addresses status text)

-- `symbolicate`, over these archives
abbrev pub symbolicate : {R S : Type 0} → Reader R → List (Reader S) → SliceKey → Option ℕ → Bool → Bool → List ℕ
    → Query
symbolicate archive others key load lines slices addresses = record {
  Makes = MakesAnswered archive others key load lines slices addresses;
  Refuses = AreRefused archive others;
  Unfailed = AreUnfailed archive others;
}
