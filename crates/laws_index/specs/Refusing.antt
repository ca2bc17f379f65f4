-- Keys that are refused while others are answered, by the indexes of contents.
use Rattle.std.specs.Prelude.{◌≡◌, ◌≢◌, ◌⊎◌, ℕ, Bool, true, List, [], ◌∷◌, ◌++◌, Option}
use Rattle.std.specs.List.{AllZip}
use Rattle.archive_core.specs.Content.{Operations}
use Rattle.archive_core.specs.Key.{key_bytes}
use Rattle.archive_core.specs.declared.keys.SliceKey.{SliceKey}
use Rattle.archive_records.specs.Text.{written}
use Rattle.text_input_files.specs.declared.frame.Frame.{Frame}
use Rattle.text_reports.specs.Slices.{TellsSlices}
use Rattle.command_common.specs.Inputs.{IsGiven, Reader}
use Rattle.command_common.specs.declared.faults.Status.{Status}
use Rattle.command_queries.specs.Frames.{TellsFramesWith, frame_keys, frames_under_key}
use Rattle.command_queries.specs.Slices.{IsAnsweringRow}
use Rattle.command_queries.specs.SourceFrames.{IsAnswerWithFrames}
use Rattle.command_queries.specs.Symbolicate.{TellsAddressesWith}
use Rattle.command_frames.specs.Asking.{is_stale_entry}
use Rattle.command_frames.specs.Frames.{TellFramesBesides}
use Rattle.command_frames.specs.Refusals.{KeyRefusal, refusal_lines}
use Rattle.laws_index.specs.Contents.{IsForLines}
use Rattle.laws_index.specs.Indexes.{AreTiedSlices, all_joined}

-- The key is refused because lines are wanted, and a slice that answers under it has none.
abbrev pub IsRefusedForLines : Bool → List Operations → KeyRefusal → Type 0
IsRefusedForLines lines os refusal = IsForLines lines os (key_bytes refusal.key ∷ []) refusal.at refusal.why

-- the archives are the texts of these contents
abbrev pub AreOwnTexts : {P : Type 0} → List (Reader P) → List Operations → Type 0
AreOwnTexts archives os = AllZip (λ archive o. IsGiven archive (written o)) archives os

-- The key is refused because two slices of one length, of two contents, answer under it, and not all archives are still
-- the texts of these contents.
pub record IsRefusedForSlice {P : Type 0} (archives : List (Reader P)) (os : List Operations) (refusal : KeyRefusal)
    : Type 0 where
  pub key : SliceKey
  pub key_is : key_bytes refusal.key ≡ key_bytes key
  pub tied : AreTiedSlices os key
  pub stale : is_stale_entry refusal.why ≡ true
  pub changed : AreOwnTexts archives os → ⊥

-- the key is refused for lines, or for a slice that is no longer there
abbrev pub IsRefusedFor : {P : Type 0} → Bool → List (Reader P) → List Operations → KeyRefusal → Type 0
IsRefusedFor lines archives os refusal = IsRefusedForLines lines os refusal ⊎ IsRefusedForSlice archives os refusal

-- Some keys of these frames are refused, each for one of these reasons. The other frames have the answers of the join
-- of the contents, followed by the lines of the slices that answer there under these keys, and of the refused keys.
pub record TellsFramesBesides {P : Type 0} (lines : Bool) (archives : List (Reader P)) (os : List Operations)
    (keys : List SliceKey) (frames : List Frame) (status : Status) (text : List ℕ) : Type 0 where
  pub refusals : List KeyRefusal
  pub some : refusals ≢ []
  pub answers : List ℕ
  pub told : TellFramesBesides (λ key. IsAnswerWithFrames (all_joined os) key lines)
      (IsRefusedFor lines archives os) frames refusals status answers
  pub slices : List ℕ
  pub tells_slices : TellsSlices (IsAnsweringRow (all_joined os) keys) keys slices
  pub text_is : text ≡ answers ++ (slices ++ refusal_lines refusals)

-- The frames have the answers of the join of the contents; or slices are wanted, and some keys are refused.
abbrev pub TellsFramesOrBesides : {P : Type 0} → Bool → Bool → List (Reader P) → List Operations → List Frame → Status
    → List ℕ → Type 0
TellsFramesOrBesides lines slices archives os frames status text =
    TellsFramesWith lines slices (all_joined os) frames status text
    ⊎ ((slices ≡ true) × TellsFramesBesides lines archives os (frame_keys frames) frames status text)

-- The addresses have the answers of the join of the contents; or slices are wanted, and the key is refused.
abbrev pub TellsAddressesOrBesides : {P : Type 0} → List (Reader P) → List Operations → SliceKey → Option ℕ → Bool
    → Bool → List ℕ → Status → List ℕ → Type 0
TellsAddressesOrBesides archives os key load lines slices addresses status text =
    TellsAddressesWith (all_joined os) key load lines slices addresses status text
    ⊎ ((slices ≡ true)
    × TellsFramesBesides lines archives os (key ∷ []) (frames_under_key key load addresses) status text)
