use Rattle.table_source_frames_build.proofs.LeastLemmas.{least_are_steps}
use Rattle.table_source_frames_build.proofs.laws.least_steps_are_frame_steps.Goals as goal

pub returns : goal.returns
returns c = λ image added steps. least_are_steps image (λ a f g. c.one_list_of_frames.ensures image a f g) added steps
