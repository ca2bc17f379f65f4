use Rattle.std.proofs.Common.{Option, refl, sym, subst}
use Rattle.std.specs.Prelude.{IsSome}
use Rattle.archive_merge.specs.declared.arrivals.Arrival.{Arrival}
use Rattle.archive_merge.specs.Sides.{sides_of}
use Rattle.archive_merge.proofs.ArrivalTurns.{no_room}
use Rattle.archive_merge.proofs.arrival_merge.push_arrival.Goals as goal

pub returns-in-Err-clause-stops : goal.returns-in-Err-clause-stops
returns-in-Err-clause-stops g c = λ a1 b1 a2 b2 w0 w1 p.
    let some = subst (λ (o : Option Arrival). IsSome o) (sym c.in-Some.is) refl in
    no_room a1 b1 a2 b2 w0 w1 (sides_of g.B.Side.seen c.args.m.now) p c.requires.read (c.requires.unread some)
    c.requires.fits.right_few c.stopped_by.result c.out_of_memory-fault.result c.offset.result c.stopped_by.ensures
    c.out_of_memory-fault.ensures c.offset.ensures
