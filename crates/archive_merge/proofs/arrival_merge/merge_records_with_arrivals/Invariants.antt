use Rattle.std.proofs.Common.{◌≡◌, ℕ, List, Option}
use Rattle.archive_merge.specs.Sides.{sides_of}
use Rattle.archive_merge.specs.MergeSteps.{Fits, IsRead, cost_of}
use Rattle.archive_merge.specs.ArrivalSteps.{MergingWithArrivals}
use Rattle.archive_merge.proofs.arrival_merge.merge_records_with_arrivals.Given as goal

abbrev pub invariant-turns : goal.invariant-turns
invariant-turns g l = record {
  telling : (a1 a2 w0 : Option (List ℕ)) → MergingWithArrivals a1 (g.R.Source.left l.initial.r1) a2 (g.B.ReadFrom.left l.initial.r2)
      w0 (g.W.Sink.held l.initial.w) (sides_of g.B.Side.seen l.initial.m) l.initial.told.arrivals.items
      l.initial.told.withdraws → MergingWithArrivals a1 (g.R.Source.left l.r1) a2 (g.B.ReadFrom.left l.r2) w0 (g.W.Sink.held l.w)
      (sides_of g.B.Side.seen l.m) l.told.arrivals.items l.told.withdraws;
  fits : Fits (sides_of g.B.Side.seen l.m);
  read : IsRead (sides_of g.B.Side.seen l.m);
  unfailed1 : g.R.Source.failures l.r1 ≡ g.R.Source.failures l.initial.r1;
  unfailed2 : g.B.ReadFrom.failures l.r2 ≡ g.B.ReadFrom.failures l.initial.r2;
  unfailed : g.W.Sink.failures l.w ≡ g.W.Sink.failures l.initial.w;
}

abbrev pub decreases-turns : goal.decreases-turns
decreases-turns g l = cost_of (sides_of g.B.Side.seen l.m)
