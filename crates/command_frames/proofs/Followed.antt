-- Replies, and what is printed after them.
use Rattle.std.proofs.Common.{ℕ, Bool, true, false, List, ◌++◌, sym, ap, ◌∙◌, subst}
use Rattle.archive_core.specs.Lookup.{AnswerRecord}
use Rattle.archive_core.specs.declared.keys.SliceKey.{SliceKey}
use Rattle.archive_core.specs.declared.lookup.Where.{Where}
use Rattle.dwarf_source_frames.specs.Frames.{FrameRecord}
use Rattle.text_input_files.specs.declared.frame.Frame.{Frame}
use Rattle.command_common.specs.declared.faults.Status.{Status}
use Rattle.command_queries.specs.Frames.{TellFrames}
use Rattle.command_frames.specs.Frames.{TellFramesWith}
use Rattle.command_frames.specs.InnerReplies.{TellFramesPart}
use Rattle.command_frames.specs.InnerSlices.{AreFollowed}
use Rattle.command_frames.specs.Refusals.{KeyRefusal}

pub followed : (slices : Bool) (IsSaid : SliceKey → Where → AnswerRecord → List (List FrameRecord) → Type 0) (IsRefused : KeyRefusal → Type 0)
    (all : List (List (List ℕ))) (keys : List SliceKey) (frames : List Frame) (status : Status) (answers refused text : List ℕ)
    → TellFramesPart slices IsSaid IsRefused frames status answers refused → AreFollowed slices all keys answers refused text
    → TellFramesWith slices IsSaid IsRefused all keys frames status text
followed false IsSaid IsRefused all keys frames status answers refused text told is = subst (TellFrames IsSaid frames status) (sym is) told
followed true IsSaid IsRefused all keys frames status answers refused text (refusals, besides, refused_is) (slices, sliced, is) = record {
  refusals = refusals;
  answers = answers;
  told = besides;
  slices = slices;
  sliced = sliced;
  text_is = is ∙ ap (λ (r : List ℕ). answers ++ (slices ++ r)) refused_is;
}
