use Rattle.archive_merge.specs.Sides.{side_with, sides_of}
use Rattle.archive_merge.proofs.Starts.{left_stops, left_read}
use Rattle.archive_merge.proofs.ArrivalTurns.{tells_left_read}
use Rattle.archive_merge.proofs.merging.read_left.Goals as goal

pub returns-in-Ok-clause-merging : goal.returns-in-Ok-clause-merging
returns-in-Ok-clause-merging g c = λ b2 w1 a1 a2 w0 p.
    let left = c.in-Ok.ensures in
    left_read a1 a2 w0 w1 _ b2 _ (sides_of g.B.Side.seen c.args.m.now) p
    (side_with c.args.m.now.shared c.read_on.new.self) left.read (λ done low s. left.stands a1 done low s)

pub returns-in-Ok-clause-telling : goal.returns-in-Ok-clause-telling
returns-in-Ok-clause-telling g c = λ a1 a2 b2 w0 w1 told withdraws t.
    let left = c.in-Ok.ensures in
    tells_left_read a1 a2 w0 w1 _ b2 _ (sides_of g.B.Side.seen c.args.m.now) told withdraws t
    (side_with c.args.m.now.shared c.read_on.new.self) left.read (λ done low s. left.stands a1 done low s)

pub returns-in-Err-clause-merging : goal.returns-in-Err-clause-merging
returns-in-Err-clause-merging g c = λ b2 w1 a1 a2 w0 p.
    let left = c.in-Err.ensures in
    left_stops a1 a2 w0 w1 _ b2 _ (sides_of g.B.Side.seen c.args.m.now) p c.in-Err.fault c.stopped_by.result
    c.read_on.new.self.reader.last c.stopped_by.ensures left.unread (λ done low s. left.stands a1 done low s)
