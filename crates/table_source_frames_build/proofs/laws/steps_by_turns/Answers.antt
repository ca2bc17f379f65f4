use Rattle.table_source_frames_build.specs.TurnSteps.{steps_of_turns}
use Rattle.table_source_frames_build.proofs.TurnLemmas.{frames_right, start_there, starts_small}
use Rattle.table_source_frames_build.proofs.laws.steps_by_turns.Goals as goal

pub returns : goal.returns
returns c = λ image turns steps are least.
    c.least_steps_are_frame_steps.ensures image (steps_of_turns turns) steps least (starts_small image turns are) (frames_right image turns are)
    (λ a fits none. c.frames_stay_between_turns.ensures image turns a are fits (λ is. none (start_there image turns a are is)))
