-- The reports of `frames` and `symbolicate` over archives by their indexes.
use Rattle.std.specs.Prelude.{◌≡◌, ◌≢◌, ◌↔◌, ℕ, List, [], ◌++◌, Bool, true, false, Option, Some, None, All}
use Rattle.std.specs.Prelude.{Contains}
use Rattle.std.specs.List.{AllZip}
use Rattle.std.specs.List.Sorted.{IsStrictlySortedBy}
use Rattle.archive_core.specs.Key.{key_bytes}
use Rattle.archive_core.specs.Lookup.{AnswerRecord}
use Rattle.archive_core.specs.declared.keys.SliceKey.{SliceKey}
use Rattle.archive_core.specs.declared.lookup.Where.{Where}
use Rattle.dwarf_source_frames.specs.Frames.{FrameRecord}
use Rattle.command_queries.specs.Frames.{AskedOfFrames, IsFrameSaid, TellFrames, frame_keys, prints_addresses}
use Rattle.command_queries.specs.Frames.{prints_frames}
use Rattle.command_queries.specs.Symbolicate.{Answered}
use Rattle.text_input_files.specs.declared.frame.Frame.{Frame}
use Rattle.text_reports.specs.Slices.{TellsSlices, slice_key_cmp}
use Rattle.command_common.specs.Ends.{Query}
use Rattle.command_common.specs.Inputs.{Reader, EachUntouched}
use Rattle.command_common.specs.declared.faults.Status.{Status}
use Rattle.command_common.specs.declared.faults.Status.TheVariants.{SomeRefused}
use Rattle.command_given_indexes.specs.Several.{AreUnfailedTogether}
use Rattle.command_given_indexes.specs.Together.{AreReadWith}
use Rattle.command_frames.specs.Asking.{AreAskedUuids, AreGiven, AreRefusedAsking, IsAnsweredAt, keys_of}
use Rattle.command_frames.specs.Refusals.{AreRefusing, IsKeyRefused, KeyRefusal, Reply, refusal_lines}
use Rattle.command_frames.specs.Refusals.{replies_status, replies_text}
use Rattle.command_frames.specs.Slices.{IsAnsweringEntryRow}

-- a frame has an answer that satisfies `IsSaid` if its key is not refused, and otherwise none
abbrev pub IsAnsweredOrRefused : (SliceKey → Where → AnswerRecord → List (List FrameRecord) → Type 0)
    → List KeyRefusal → Frame → Option Answered → Type 0
IsAnsweredOrRefused IsSaid refusals frame None = AreRefusing refusals (key_bytes frame.key)
IsAnsweredOrRefused IsSaid refusals frame (Some row) =
    IsFrameSaid IsSaid frame row × (AreRefusing refusals (key_bytes frame.key) → ⊥)

-- the reply is to the address of the frame
abbrev pub IsFrameReplied : (SliceKey → Where → AnswerRecord → List (List FrameRecord) → Type 0) → List KeyRefusal
    → Frame → Reply → Type 0
IsFrameReplied IsSaid refusals frame reply =
    (reply.address ≡ frame.address) × IsAnsweredOrRefused IsSaid refusals frame reply.answered

-- Each frame has a reply, in order. The keys in `refusals` are keys of frames, each once, in the order of their bytes,
-- and each satisfies `IsRefused`. The status is `SomeRefused` exactly if a key is refused.
pub record TellFramesBesides (IsSaid : SliceKey → Where → AnswerRecord → List (List FrameRecord) → Type 0)
    (IsRefused : KeyRefusal → Type 0) (frames : List Frame) (refusals : List KeyRefusal) (status : Status)
    (text : List ℕ) : Type 0 where
  pub replies : List Reply
  pub replied : AllZip (IsFrameReplied IsSaid refusals) frames replies
  pub ascending : IsStrictlySortedBy (λ a b. slice_key_cmp a.key b.key) refusals
  pub of_frames : All (λ refusal. Contains (keys_of frames) (key_bytes refusal.key)) refusals
  pub refused : All IsRefused refusals
  pub status_is : status ≡ replies_status replies
  pub status_refused : (status ≡ SomeRefused) ↔ (refusals ≢ [])
  pub text_is : text ≡ replies_text replies

-- The same, followed by the lines of the slices that answer under these keys, by their entries, and by those of the
-- keys that are refused.
pub record TellFramesAndSlices (IsSaid : SliceKey → Where → AnswerRecord → List (List FrameRecord) → Type 0)
    (IsRefused : KeyRefusal → Type 0) (all : List (List (List ℕ))) (keys : List SliceKey) (frames : List Frame)
    (status : Status) (text : List ℕ) : Type 0 where
  pub refusals : List KeyRefusal
  pub answers : List ℕ
  pub told : TellFramesBesides IsSaid IsRefused frames refusals status answers
  pub slices : List ℕ
  pub sliced : TellsSlices (IsAnsweringEntryRow all keys) keys slices
  pub text_is : text ≡ answers ++ (slices ++ refusal_lines refusals)

-- the frames are answered; if slices are wanted, their lines and those of refused keys follow
abbrev pub TellFramesWith : Bool → (SliceKey → Where → AnswerRecord → List (List FrameRecord) → Type 0)
    → (KeyRefusal → Type 0) → List (List (List ℕ)) → List SliceKey → List Frame → Status → List ℕ → Type 0
TellFramesWith false IsSaid IsRefused all keys frames status text = TellFrames IsSaid frames status text
TellFramesWith true IsSaid IsRefused all keys frames status text =
    TellFramesAndSlices IsSaid IsRefused all keys frames status text

-- The entries under the UUIDs of these keys and of the frames were read of the indexes. The frames have these answers,
-- followed, if slices are wanted, by the slices that answer under these keys. Under each key the tables answer, or the
-- slices if two are tied. A key is refused alone only if slices are wanted.
pub record AreToldAt {I P : Type 0} (lines slices : Bool) (indexes : List (Reader I)) (archives : List (Reader P))
    (keys : List SliceKey) (frames : List Frame) (status : Status) (text : List ℕ) : Type 0 where
  pub uuids : List (List ℕ)
  pub asked : AreAskedUuids (keys ++ frame_keys frames) uuids
  pub all : List (List (List ℕ))
  pub read : AreReadWith uuids indexes archives all
  pub told : TellFramesWith slices (IsAnsweredAt (AreGiven indexes) archives all lines)
      (IsKeyRefused lines frames indexes archives all) all keys frames status text

-- the question about frames to these archives, answered by their indexes
abbrev pub frames_by_indexes : {I P : Type 0} → Bool → Bool → List (Reader I) → List (Reader P) → AskedOfFrames
frames_by_indexes lines slices indexes archives = record {
  Tells = AreToldAt lines slices indexes archives;
  Refuses = λ frames. AreRefusedAsking lines slices frames indexes archives;
  Untouched = EachUntouched indexes × EachUntouched archives;
  Unfailed = AreUnfailedTogether indexes archives;
}

-- `frames`, over FRAMES and these archives
abbrev pub frames_at : {Q I P : Type 0} → Bool → Bool → Reader Q → List (Reader I) → List (Reader P) → Query
frames_at lines slices input indexes archives = prints_frames input (frames_by_indexes lines slices indexes archives)

-- `symbolicate`, over these archives
abbrev pub symbolicate_at : {I P : Type 0} → List (Reader I) → List (Reader P) → SliceKey → Option ℕ → Bool → Bool
    → List ℕ → Query
symbolicate_at indexes archives key load lines slices addresses =
    prints_addresses (frames_by_indexes lines slices indexes archives) key load addresses
