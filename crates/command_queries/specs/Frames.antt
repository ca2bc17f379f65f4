-- The report of `frames` for the frames of a crash.
use Rattle.std.specs.Prelude.{◌≡◌, ℕ, List, [], ◌∷◌, Bool, true, false, Ok, Option, ◌⊎◌, if◌then◌else◌, map}
use Rattle.std.specs.List.{AllZip, flat_map, list_all}
use Rattle.archive_core.specs.Content.{Operations}
use Rattle.archive_core.specs.Lookup.{AnswerRecord, answer_view}
use Rattle.archive_core.specs.declared.keys.SliceKey.{SliceKey}
use Rattle.archive_core.specs.declared.lookup.Where.{Where}
use Rattle.dwarf_source_frames.specs.Frames.{FrameRecord}
use Rattle.text_input_files.specs.Frames.{frames_of}
use Rattle.text_input_files.specs.declared.frame.Frame.{Frame}
use Rattle.command_common.specs.declared.faults.InputName.{InputName}
use Rattle.command_common.specs.declared.faults.Status.{Status}
use Rattle.command_common.specs.declared.faults.Status.TheVariants.{Done, Partial, SomeRefused}
use Rattle.command_common.specs.declared.faults.Why.{Why}
use Rattle.command_common.specs.Archives.{AreRefused, AreUnfailed, HoldTogether}
use Rattle.command_common.specs.Ends.{Query}
use Rattle.command_common.specs.Inputs.{Reader, Gives, Unfailed, IsUntouched, EachUntouched, IsFrames, IsRefusedFrames}
use Rattle.command_queries.specs.Slices.{IsAnsweringRow, WithSlices}
use Rattle.command_queries.specs.SourceFrames.{IsAnswerWithFrames}
use Rattle.command_queries.specs.Symbolicate.{Answered, MakesAnswered, answers_status, answers_text, asked_of}

-- the row is that of the frame's address, and its answer satisfies `IsSaid`
abbrev pub IsFrameSaid : (SliceKey → Where → AnswerRecord → List (List FrameRecord) → Type 0)
    → Frame → Answered → Type 0
IsFrameSaid IsSaid frame row =
    (row.address ≡ frame.address)
    × IsSaid frame.key (asked_of frame.load row.address) (answer_view row.answer) row.frames

-- Each frame has an answer, in order, that satisfies `IsSaid`.
pub record TellFrames (IsSaid : SliceKey → Where → AnswerRecord → List (List FrameRecord) → Type 0)
    (frames : List Frame) (status : Status) (text : List ℕ) : Type 0 where
  pub rows : List Answered
  pub answered : AllZip (IsFrameSaid IsSaid) frames rows
  pub status_is : status ≡ answers_status rows
  pub text_is : text ≡ answers_text rows

-- the row has the content's answer for the frame's address under its key
abbrev pub IsFrameAnswered : Bool → Operations → Frame → Answered → Type 0
IsFrameAnswered lines content frame row = IsFrameSaid (λ key. IsAnswerWithFrames content key lines) frame row

-- the answers of a content for frames: the status, and the lines
abbrev pub TellsFrames : Bool → Operations → List Frame → Status → List ℕ → Type 0
TellsFrames lines content frames status text =
    TellFrames (λ key. IsAnswerWithFrames content key lines) frames status text

-- the key of each frame
abbrev pub frame_keys : List Frame → List SliceKey
frame_keys frames = map (λ frame. frame.key) frames

-- the frames of addresses in an image, under its key
abbrev pub frames_under_key : SliceKey → Option ℕ → List ℕ → List Frame
frames_under_key key load addresses =
    map (λ address. record { key = key; load = load; address = address }) addresses

-- ---- asked of any evidence

-- A question to evidence about frames: the status and the text of its answers for them under these keys; which input is
-- refused and why; that its inputs are unchanged; and that no reader fails.
pub record AskedOfFrames : Type 1 where
  pub Tells : List SliceKey → List Frame → Status → List ℕ → Type 0
  pub Refuses : List Frame → InputName → Why → Type 0
  pub Untouched : Type 0
  pub Unfailed : Type 0

-- FRAMES is a text of these frames, and these are their status and text.
pub record MakesFramed {Q : Type 0} (frames : Reader Q)
    (Tells : List SliceKey → List Frame → Status → List ℕ → Type 0) (status : Status) (text : List ℕ) : Type 0 where
  pub listed : List Frame
  pub frames_are : Gives frames (λ bytes. frames_of bytes ≡ Ok listed)
  pub tells : Tells (frame_keys listed) listed status text

-- FRAMES is refused, and no other input is read; or FRAMES is a text of frames, its reader does not fail, and another
-- input is refused for these frames
abbrev pub RefusesFrames : {Q : Type 0} → Reader Q → AskedOfFrames → InputName → Why → Type 0
RefusesFrames frames asked at why =
    (IsRefusedFrames frames at why × asked.Untouched)
    ⊎ ((says : IsFrames frames) × Unfailed frames × asked.Refuses says.0 at why)

-- the command that prints the answers for the frames of FRAMES
abbrev pub prints_frames : {Q : Type 0} → Reader Q → AskedOfFrames → Query
prints_frames frames asked = record {
  Makes = MakesFramed frames asked.Tells;
  Refuses = RefusesFrames frames asked;
  Unfailed = Unfailed frames × asked.Unfailed;
}

-- the command that prints the answers for addresses under a key
abbrev pub prints_addresses : AskedOfFrames → SliceKey → Option ℕ → List ℕ → Query
prints_addresses asked key load addresses = record {
  Makes = asked.Tells (key ∷ []) (frames_under_key key load addresses);
  Refuses = asked.Refuses (frames_under_key key load addresses);
  Unfailed = asked.Unfailed;
}

-- ---- asked of archives, by their records

-- the question about frames to archives: the answers of their join, and if they are wanted, the lines of the slices
-- that answer in it
abbrev pub frames_held : {R S : Type 0} → Bool → Bool → Reader R → List (Reader S) → AskedOfFrames
frames_held lines slices archive others = record {
  Tells = λ keys frames status text. HoldTogether archive others
      (λ o. WithSlices slices (TellsFrames lines o frames) (IsAnsweringRow o keys) keys status text);
  Refuses = λ frames. AreRefused archive others;
  Untouched = IsUntouched archive × EachUntouched others;
  Unfailed = AreUnfailed archive others;
}

-- the same for the first archive and the others; without archives there is no answer
abbrev pub frames_by_records : {S : Type 0} → Bool → Bool → List (Reader S) → AskedOfFrames
frames_by_records lines slices [] = record {
  Tells = λ keys frames status text. ⊥;
  Refuses = λ frames at why. ⊥;
  Untouched = Unit {0};
  Unfailed = Unit {0};
}
frames_by_records lines slices (archive ∷ others) = frames_held lines slices archive others

-- the answers of a content for frames, and if they are wanted, the lines of the slices that answer
abbrev pub TellsFramesWith : Bool → Bool → Operations → List Frame → Status → List ℕ → Type 0
TellsFramesWith lines slices content frames status text =
    WithSlices slices (TellsFrames lines content frames) (IsAnsweringRow content (frame_keys frames))
    (frame_keys frames)
    status text

-- `frames`, over FRAMES and these archives
abbrev pub frames : {R S T : Type 0} → Bool → Bool → Reader R → Reader S → List (Reader T) → Query
frames lines slices input archive others = prints_frames input (frames_held lines slices archive others)

-- the status of `symbolicate`, and its lines
pub record Told : Type 0 where
  pub status : Status
  pub text : List ℕ

-- `symbolicate` over the archives has this status and these lines for the frame's address alone
abbrev pub IsToldAlone : {S T : Type 0} → Bool → Reader S → List (Reader T) → Frame → Told → Type 0
IsToldAlone lines archive others frame told =
    MakesAnswered archive others frame.key frame.load lines false (frame.address ∷ []) told.status told.text

-- everything asked for was found
abbrev pub is_done : Status → Bool
is_done Done = true
is_done Partial = false
is_done SomeRefused = false

-- The results of `symbolicate` over the archives for the frames, one call for each, in order: `Done` if each is, and
-- their texts in order.
pub record SymbolicatesEach {S T : Type 0} (lines : Bool) (archive : Reader S) (others : List (Reader T))
    (frames : List Frame) (status : Status) (text : List ℕ) : Type 0 where
  pub told : List Told
  pub alone : AllZip (IsToldAlone lines archive others) frames told
  pub status_is : status ≡ if list_all (λ one. is_done one.status) told then Done else Partial
  pub text_is : text ≡ flat_map (λ one. one.text) told
