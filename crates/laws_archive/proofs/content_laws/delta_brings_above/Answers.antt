use Rattle.archive_core.specs.Summary.{summary}
use Rattle.archive_core.proofs.Made.{or_left}
use Rattle.archive_core.proofs.Summaries.{brought_above, brought_within}
use Rattle.laws_archive.proofs.content_laws.delta_brings_above.Goals as goal

pub returns : goal.returns
returns c = record {
  above = brought_above;
  own = λ o p a b tells. brought_above o p (summary p) a b tells (λ e h. or_left _ _ h);
  within = λ o p s _ _. brought_within o p s;
}
