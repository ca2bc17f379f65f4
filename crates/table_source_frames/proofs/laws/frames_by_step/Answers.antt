use Rattle.table_source_frames.proofs.StepLemmas.{by_step}
use Rattle.table_source_frames.proofs.laws.frames_by_step.Goals as goal

pub returns : goal.returns
returns c = λ image steps a found fits are is. by_step c.one_list_of_frames.ensures image c.one_step.ensures steps are a fits found is
