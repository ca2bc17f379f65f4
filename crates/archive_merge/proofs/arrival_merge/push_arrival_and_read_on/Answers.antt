use Rattle.archive_merge.specs.Sides.{sides_of}
use Rattle.archive_merge.proofs.ArrivalTurns.{tells_as, told_or_stopped}
use Rattle.archive_merge.proofs.arrival_merge.push_arrival_and_read_on.Goals as goal

pub returns-clause-telling : goal.returns-clause-telling
returns-clause-telling g c = λ w1 a1 a2 w0 t.
    let left = c.in_ok-read_left.ensures.telling a1 a2 _ w0 w1 _ _ t in
    let told = tells_as a1 _ a2 _ w0 w1 (sides_of g.B.Side.seen c.read_left.new.m) _ c.push_arrival.new.told.arrivals.items _
    c.push_arrival.new.told.withdraws c.in_ok-push_arrival.ensures.arrivals c.in_ok-push_arrival.ensures.withdraws left in
    let right = c.read_right.ensures in
    told_or_stopped _ _ _ c.read_right.result (right.telling a1 _ a2 w0 w1 c.push_arrival.new.told.arrivals.items
    c.push_arrival.new.told.withdraws told) (right.merging _ w1 a1 a2 w0 left.merging)
