use Rattle.table_source_frames_build.proofs.TurnLemmas.{stays}
use Rattle.table_source_frames_build.proofs.laws.frames_stay_between_turns.Goals as goal

pub returns : goal.returns
returns c = λ image turns a are fits none. stays image (c.same_between_turns.ensures image) (c.empty_before_turns.ensures image) turns are a fits none
