-- The frames of each address of an image, step by step.
use Rattle.std.specs.Prelude.{◌≡◌, ◌≢◌, ◌<◌, ◌≤◌, ◌^◌, ℕ, zero, suc, List, [], length, map, slice_get, slice_index}
use Rattle.std.specs.Prelude.{All, Contains, Option, Some, None, MatchOption}
use Rattle.std.specs.Option.{option_map_or}
use Rattle.dwarf_source_frames.specs.AddressFrames.{AreFramesOf}
use Rattle.dwarf_source_frames.specs.Frames.{FrameRecord}

-- the frames from an address on, up to the next step, the innermost first
pub record StepRecord : Type 0 where
  pub start : ℕ
  pub frames : List FrameRecord

-- the addresses at which steps start
abbrev pub starts_of : List StepRecord → List ℕ
starts_of steps = map (λ s. s.start) steps

-- numbers ascend
abbrev pub AreAscending : List ℕ → Type 0
AreAscending all = (i j : ℕ) → i < j → j < length all → slice_index all i < slice_index all j

-- the frames of the address before; address 0 has none before it
abbrev pub AreFramesBefore : List ℕ → ℕ → List FrameRecord → Type 0
AreFramesBefore image zero frames = frames ≡ []
AreFramesBefore image (suc before) frames = AreFramesOf image before frames

-- the frames of an address differ from those of the address before
pub record Changes (image : List ℕ) (address : ℕ) : Type 0 where
  pub before : List FrameRecord
  pub frames : List FrameRecord
  pub are_before : AreFramesBefore image address before
  pub are_frames : AreFramesOf image address frames
  pub differ : frames ≢ before

-- the frames of an address equal those of the address before
pub record Stays (image : List ℕ) (address : ℕ) : Type 0 where
  pub frames : List FrameRecord
  pub are_before : AreFramesBefore image address frames
  pub are_frames : AreFramesOf image address frames

-- the steps of an image: one at exactly the addresses at which the frames change, ascending, with the frames there
pub record AreFrameSteps (image : List ℕ) (steps : List StepRecord) : Type 0 where
  pub rising : AreAscending (starts_of steps)
  pub below : All (λ s. s.start < 2 ^ 64) steps
  pub each : All (λ s. AreFramesOf image s.start s.frames) steps
  pub changes : (a : ℕ) → Contains (starts_of steps) a → Changes image a
  pub stays : (a : ℕ) → a < 2 ^ 64 → (Contains (starts_of steps) a → ⊥) → Stays image a

-- the last number that is not above an address is at this index
pub record IsLastNotAbove (starts : List ℕ) (address index : ℕ) : Type 0 where
  pub stands : index < length starts
  pub not_above : slice_index starts index ≤ address
  pub others : (j : ℕ) → index < j → j < length starts → address < slice_index starts j

-- each number is above an address
abbrev pub AreAbove : List ℕ → ℕ → Type 0
AreAbove starts address = (j : ℕ) → j < length starts → address < slice_index starts j

-- the index of the step of an address, by the starts of steps, or none
abbrev pub IsStepFor : List ℕ → ℕ → Option ℕ → Type 0
IsStepFor starts address found = MatchOption found (AreAbove starts address) (IsLastNotAbove starts address)

-- the frames of the step at an index; none without an index
abbrev pub frames_at : List StepRecord → Option ℕ → List FrameRecord
frames_at steps None = []
frames_at steps (Some index) = option_map_or (λ s. s.frames) (slice_get steps index) []
