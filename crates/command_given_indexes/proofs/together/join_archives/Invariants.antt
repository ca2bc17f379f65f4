use Rattle.std.proofs.Common.{◌≡◌, map, take, drop}
use Rattle.command_common.specs.Inputs.{EachUnfailed, readers}
use Rattle.command_given_indexes.specs.Prefixes.{prefix_bytes}
use Rattle.command_given_indexes.specs.InnerParts.{HaveJoinedGroups}
use Rattle.command_given_indexes.specs.Together.{HaveLengths, HaveSameBytes}
use Rattle.command_given_indexes.proofs.together.join_archives.Given as goal

abbrev pub invariant-archives : goal.invariant-archives
invariant-archives g l = record {
  joined : HaveJoinedGroups (map prefix_bytes l.prefixes)
      (take l.number (readers g.P.Placed.whole g.P.Placed.failures l.fn.archives l.archives)) (take l.number l.read)
      (g.A.Join.content l.initial.kept) (g.A.Join.content l.kept);
  lengths : HaveLengths (take l.number (readers g.P.Placed.whole g.P.Placed.failures l.fn.archives l.archives)) (take l.number l.sizes);
  unfailed : EachUnfailed (readers g.P.Placed.whole g.P.Placed.failures l.fn.archives l.archives);
  rest : drop l.number l.archives ≡ drop l.number l.fn.archives;
  bytes : HaveSameBytes g.P.Placed.whole l.fn.archives l.archives;
}
