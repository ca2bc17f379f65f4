use Rattle.std.proofs.Common.{ap}
use Rattle.archive_core.specs.Content.{Operations}
use Rattle.command_common.specs.Archives.{merged}
use Rattle.laws_archive.proofs.Least.{merged_alike, merged_before, merged_union}
use Rattle.laws_archive.proofs.outcome_laws.merged_in_any_order.Goals as goal

pub returns : goal.returns
returns c = record {
  order = merged_alike;
  input = λ o p contents a b. ap (λ (q : Operations). merged q contents) (c.contents_join.ensures.commutative o p a b);
  grouping = λ o p contents others _ _ _ _. merged_before o p contents others;
  union = λ o contents is _. merged_union o contents is.itself;
}
