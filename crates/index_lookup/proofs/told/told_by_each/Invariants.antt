use Rattle.index_lookup.proofs.Asked.{HaveTold}
use Rattle.index_lookup.proofs.told.told_by_each.Given as goal

abbrev pub invariant-answering : goal.invariant-answering
invariant-answering g l = HaveTold g.P.Placed.whole g.P.Placed.failures l.lines l.asked l.answering l.numbered-index l.fn.devices l.devices l.columns.items
