-- Replies to frames, with the lines of refused keys: definitions for private functions. No public contract uses them.
use Rattle.std.specs.Prelude.{◌≡◌, ℕ, Bool, true, false, List}
use Rattle.archive_core.specs.Lookup.{AnswerRecord}
use Rattle.archive_core.specs.declared.keys.SliceKey.{SliceKey}
use Rattle.archive_core.specs.declared.lookup.Where.{Where}
use Rattle.dwarf_source_frames.specs.Frames.{FrameRecord}
use Rattle.text_input_files.specs.declared.frame.Frame.{Frame}
use Rattle.command_common.specs.declared.faults.Status.{Status}
use Rattle.command_frames.specs.declared.key_answers.KeyAnswers.{KeyAnswers}
use Rattle.command_queries.specs.Frames.{TellFrames}
use Rattle.command_frames.specs.Frames.{TellFramesBesides}
use Rattle.command_frames.specs.InnerSlices.{AreFollowed}
use Rattle.command_frames.specs.InnerKeyReplies.{ShowsFrames, refusals_in}
use Rattle.command_frames.specs.Refusals.{KeyRefusal, refusal_lines}

-- the frames are answered; if slices are wanted, these are the lines of the refused keys
abbrev pub TellFramesPart : Bool → (SliceKey → Where → AnswerRecord → List (List FrameRecord) → Type 0)
    → (KeyRefusal → Type 0) → List Frame → Status → List ℕ → List ℕ → Type 0
TellFramesPart false IsSaid IsRefused frames status answers refused = TellFrames IsSaid frames status answers
TellFramesPart true IsSaid IsRefused frames status answers refused = (refusals : List KeyRefusal)
    × TellFramesBesides IsSaid IsRefused frames refusals status answers × (refused ≡ refusal_lines refusals)

-- The lines of the frames; if slices are wanted, followed by those of slices and of refused keys.
pub record PrintsFrames (told : List KeyAnswers) (slices : Bool) (all : List (List (List ℕ))) (keys : List SliceKey)
    (frames : List Frame) (status : Status) (text : List ℕ) : Type 0 where
  pub answers : List ℕ
  pub shown : ShowsFrames told frames status answers
  pub refused : List ℕ
  pub refused_is : refused ≡ refusal_lines (refusals_in told)
  pub followed : AreFollowed slices all keys answers refused text
