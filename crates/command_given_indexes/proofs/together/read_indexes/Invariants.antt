use Rattle.std.proofs.Common.{◌≡◌, take, drop}
use Rattle.command_common.specs.Inputs.{EachUnfailed, readers}
use Rattle.command_given_indexes.specs.Together.{AreAllKept, AreReadWith, HaveLengths}
use Rattle.command_given_indexes.proofs.together.read_indexes.Given as goal

abbrev pub invariant-indexes : goal.invariant-indexes
invariant-indexes g l = record {
  read : AreReadWith l.uuids (take l.number (readers g.I.Placed.whole g.I.Placed.failures l.fn.indexes l.indexes))
      (take l.number (readers g.P.Placed.whole g.P.Placed.failures l.fn.archives l.archives)) l.read.items;
  lengths : HaveLengths (take l.number (readers g.P.Placed.whole g.P.Placed.failures l.fn.archives l.archives)) l.sizes.items;
  unfailed : EachUnfailed (readers g.I.Placed.whole g.I.Placed.failures l.fn.indexes l.indexes);
  unfailed_at : EachUnfailed (readers g.P.Placed.whole g.P.Placed.failures l.fn.archives l.archives);
  kept : AreAllKept g.I.Placed.whole g.I.Placed.failures l.fn.indexes l.indexes;
  kept_at : AreAllKept g.P.Placed.whole g.P.Placed.failures l.fn.archives l.archives;
  rest : drop l.number l.indexes ≡ drop l.number l.fn.indexes;
  rest_at : drop l.number l.archives ≡ drop l.number l.fn.archives;
}
