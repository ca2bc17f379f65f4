use Rattle.table_source_frames.proofs.StepLemmas.{steps_once}
use Rattle.table_source_frames.proofs.laws.one_list_of_steps.Goals as goal

pub returns : goal.returns
returns c = λ image steps others p q. steps_once c.one_list_of_frames.ensures image steps others p q
