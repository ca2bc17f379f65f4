use Rattle.archive_merge.specs.Sides.{sides_of}
use Rattle.archive_merge.proofs.Starts.{end_stops}
use Rattle.archive_merge.proofs.ArrivalTurns.{merging_end, tells_end}
use Rattle.archive_merge.proofs.streams.finish.Goals as goal

pub returns-in-Ok-clause-leaves : goal.returns-in-Ok-clause-leaves
returns-in-Ok-clause-leaves g c = λ a1 b1 a2 b2 w0 p.
    let put = c.in-Ok.ensures in
    merging_end a1 b1 a2 b2 w0 _ _ (sides_of g.B.Side.seen c.args.m.now) c.requires c.in-Ok.sizes put.puts.gained put.records put.puts.size_is p

pub returns-in-Ok-clause-told : goal.returns-in-Ok-clause-told
returns-in-Ok-clause-told g c = λ a1 b1 a2 b2 w0 told withdraws t.
    let put = c.in-Ok.ensures in
    tells_end a1 b1 a2 b2 w0 _ _ (sides_of g.B.Side.seen c.args.m.now) c.requires c.in-Ok.sizes put.puts.gained put.records put.puts.size_is told withdraws t

pub returns-in-Err-clause-leaves : goal.returns-in-Err-clause-leaves
returns-in-Err-clause-leaves g c = λ a1 b1 a2 b2 w0 p.
    let put = c.in-Err.ensures.puts in
    end_stops a1 b1 a2 b2 w0 _ _ (sides_of g.B.Side.seen c.args.m.now) p c.requires c.in-Err.fault.written put.some put.written_is put.first
