use Rattle.std.proofs.Common.{◌≡◌, take, drop}
use Rattle.command_common.specs.Inputs.{EachUnfailed, readers}
use Rattle.command_common.specs.InnerTogether.{HasJoinedParts}
use Rattle.command_common.proofs.together.join_parts.Given as goal

abbrev pub invariant-others : goal.invariant-others
invariant-others g l = record {
  joined : HasJoinedParts (take l.index (readers g.R.Source.left g.R.Source.failures l.fn.others l.others))
      (g.S.Selects.picked l.select) (g.A.Join.content l.initial.kept) (g.A.Join.content l.kept);
  unfailed : EachUnfailed (readers g.R.Source.left g.R.Source.failures l.fn.others l.others);
  rest : drop l.index l.others ≡ drop l.index l.fn.others;
}
