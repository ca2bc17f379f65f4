use Rattle.std.proofs.Common.{Bool, ap, ◌∙◌, ◌&&◌, ◌||◌}
use Rattle.archive_merge.specs.Sides.{sides_of}
use Rattle.archive_merge.specs.ArrivalSteps.{with_arrival}
use Rattle.archive_merge.proofs.ArrivalTurns.{tells_as}
use Rattle.archive_merge.proofs.arrival_merge.merge_next_record.Goals as goal

pub returns-clause-telling : goal.returns-clause-telling
returns-clause-telling g c = λ a1 a2 w0 t.
    let arrival = c.next_arrival-arrival.result in
    let taken = rw c.next_arrival-arrival.ensures.same at c.in_ok-passed.ensures.telling in
    let had = rw c.next_arrival-arrival.ensures.same at c.has_next-had.ensures in
    let told = taken a1 _ a2 _ w0 _ _ arrival (c.share_retirement.ensures.telling a1 _ a2 _ w0 _ _ _ t) c.next_arrival-arrival.ensures.tells in
    let arrivals = ap (λ v. with_arrival v.items arrival) c.pass.ensures.arrivals in
    let withdraws = c.pass.ensures.withdraws ∙ ap (λ (b : Bool). (c.in_ok-passed.passed && b) || c.args.told.now.withdraws) had in
    c.push_arrival_and_read_on.ensures.telling _ a1 a2 w0 (tells_as a1 _ a2 _ w0 _ (sides_of g.B.Side.seen c.take_turn.new.m) _ _ _ _ arrivals withdraws told)
