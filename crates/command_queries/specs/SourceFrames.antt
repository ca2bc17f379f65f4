-- The answer of a content for an address, with the source frames of the slices that answer.
use Rattle.std.specs.Prelude.{◌≡◌, ℕ, List, [], Bool, true, false, MatchOption}
use Rattle.std.specs.List.{AllZip}
use Rattle.archive_core.specs.Content.{Operations}
use Rattle.archive_core.specs.Find.{AreAnswering}
use Rattle.archive_core.specs.Lookup.{AnswerRecord, IsAnswerOf, file_address}
use Rattle.archive_core.specs.declared.keys.SliceKey.{SliceKey}
use Rattle.archive_core.specs.declared.lookup.Where.{Where}
use Rattle.dwarf_source_frames.specs.AddressFrames.{AreFramesOf}
use Rattle.dwarf_source_frames.specs.Frames.{FrameRecord}

-- the frames in a slice for an address: those of its address in the slice's file, or none if it has none there
abbrev pub AreFramesAt : Where → List ℕ → List FrameRecord → Type 0
AreFramesAt asked slice frames =
    MatchOption (file_address slice asked) (frames ≡ []) (λ address. AreFramesOf slice address frames)

-- the shown frames of slices for an address: those in each, or none if no lines are wanted
abbrev pub AreShown : Bool → Where → List (List ℕ) → List (List FrameRecord) → Type 0
AreShown true asked slices frames = AllZip (AreFramesAt asked) slices frames
AreShown false asked slices frames = frames ≡ []

-- the answer of a content under a key: that of its answering slices for an address, in ascending order of their
-- records, with the shown frames of the slices
pub record IsAnswerWithFrames (o : Operations) (key : SliceKey) (lines : Bool) (asked : Where) (answer : AnswerRecord)
    (frames : List (List FrameRecord)) : Type 0 where
  pub slices : List (List ℕ)
  pub answering : AreAnswering o key slices
  pub answer_is : IsAnswerOf asked slices answer
  pub shown : AreShown lines asked slices frames
