use Rattle.std.proofs.Common.{List, ap, take, ◌∙◌}
use Rattle.std.proofs.lemmas.List.{take_min}
use Rattle.table_source_frames_build.specs.declared.step.Step.{Step}
use Rattle.table_source_frames_build.proofs.steps.group_at.Goals as goal

pub returns : goal.returns
returns c =
    c.split_at-2.ensures.front ∙ ap (λ n. take n c.split_at.result.1.now) c.min.ensures ∙ take_min 128 c.split_at.result.1.now
    ∙ ap (λ (l : List Step). take 128 l) c.split_at.ensures.back
