-- Steps in the code, as the definitions have them.
use Rattle.std.specs.Prelude.{ℕ, List, [], ◌∷◌, ◌==◌, ◌≤◌, All, if◌then◌else◌, length}
use Rattle.table_source_frames.specs.StepGroups.{StepNumbers as NumbersRecord}
use Rattle.table_source_frames.specs.Steps.{StepRecord}
use Rattle.table_source_frames_build.specs.Kept.{KeptRecord, chain_at}
use Rattle.table_source_frames_build.specs.declared.step.Step.{Step}
use Rattle.table_source_frames_build.specs.declared.steps.StepNumbers.{StepNumbers}

-- a step with its frames
abbrev pub step_of : KeptRecord → Step → StepRecord
step_of k step = record { start = step.start; frames = chain_at k step.location }

-- the numbers of a step
abbrev pub numbers_view : StepNumbers → NumbersRecord
numbers_view n = record { start = n.start; scope = n.scope; line = n.line; column = n.column }

-- each location of a step exists, or is 0
abbrev pub HaveLocations : KeptRecord → List Step → Type 0
HaveLocations k steps = All (λ (s : Step). s.location ≤ length k.locations) steps

-- the steps after this location, without each step whose location is that of the step before
unfoldable pub changed_after : ℕ → List Step → List Step
changed_after before [] = []
changed_after before (step ∷ steps) =
    if step.location == before then changed_after before steps
    else step ∷ changed_after step.location steps
