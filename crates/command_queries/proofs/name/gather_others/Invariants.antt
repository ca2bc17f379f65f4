use Rattle.std.proofs.Common.{◌≡◌, take, drop}
use Rattle.command_common.specs.Inputs.{EachUnfailed, readers}
use Rattle.command_queries.specs.InnerNames.{HaveAdded}
use Rattle.command_queries.proofs.name.gather_others.Given as goal

abbrev pub invariant-others : goal.invariant-others
invariant-others g l = record {
  added : HaveAdded (take l.index (readers g.R.Source.left g.R.Source.failures l.fn.others l.others)) l.sought.name.now l.sought.other.now l.fn.found l.now;
  unfailed : EachUnfailed (readers g.R.Source.left g.R.Source.failures l.fn.others l.others);
  rest : drop l.index l.others ≡ drop l.index l.fn.others;
}
