-- The frames that a store of lines has accepted, and the table that it writes.
use Rattle.std.specs.Prelude.{ℕ, List, [], ◌∷◌, ◌≡◌, if◌then◌else◌}
use Rattle.std.specs.List.Sorted.{IsNonDecreasingBy, IsPermutation}
use Rattle.dwarf_source_frames.specs.Frames.{FrameRecord}
use Rattle.table_source_frames.specs.LineTable.{IsLineTextWithin}
use Rattle.table_source_frames.specs.Numbering.{same_chain}
use Rattle.table_source_frames.specs.Steps.{StepRecord}

-- the steps after these frames, without each step whose frames are those of the step before
unfoldable pub changes_after : List FrameRecord → List StepRecord → List StepRecord
changes_after before [] = []
changes_after before (step ∷ steps) =
    if same_chain step.frames before then changes_after before steps
    else step ∷ changes_after step.frames steps

-- the fewest steps with the same frames at each address: the added steps in the order of their starts, without each
-- step whose frames are those of the step before; before the first there are no frames
pub record AreLeastSteps (added steps : List StepRecord) : Type 0 where
  pub sorted : List StepRecord
  pub are_those : IsPermutation added sorted
  pub ascend : IsNonDecreasingBy (λ (s : StepRecord). s.start) sorted
  pub are_changes : steps ≡ changes_after [] sorted

-- the table of the fewest steps of a store, in a slice with these strings, if `room` bytes are allowed
abbrev pub IsWritten : ℕ → List ℕ → List StepRecord → List ℕ → Type 0
IsWritten room strings added bytes =
    (steps : List StepRecord) × AreLeastSteps added steps × IsLineTextWithin room strings steps bytes
