use Rattle.byte_device.specs.Devices.{stream}
use Rattle.archive_merge.specs.Sides.{side_with, sides_of}
use Rattle.archive_merge.proofs.Starts.{right_stops, right_read, told_right}
use Rattle.archive_merge.proofs.ArrivalTurns.{tells_right_read}
use Rattle.archive_merge.proofs.merging.read_right.Goals as goal

pub returns-in-Ok-clause-merging : goal.returns-in-Ok-clause-merging
returns-in-Ok-clause-merging g c = λ b1 w1 a1 a2 w0 p.
    right_read a1 a2 w0 w1 b1 _ _ (sides_of g.B.Side.seen c.args.m.now) p c.requires.read
    (side_with c.args.m.now.shared (g.B.Side.seen c.read_on.new.self))
    (λ done low s. c.in-Ok.ensures.stands a2 done low s)

pub returns-in-Ok-clause-telling : goal.returns-in-Ok-clause-telling
returns-in-Ok-clause-telling g c = λ a1 b1 a2 w0 w1 told withdraws t.
    tells_right_read a1 a2 w0 w1 b1 _ _ (sides_of g.B.Side.seen c.args.m.now) told withdraws t c.requires.read
    (side_with c.args.m.now.shared (g.B.Side.seen c.read_on.new.self))
    (λ done low s. c.in-Ok.ensures.stands a2 done low s)

pub returns-in-Err-clause-merging : goal.returns-in-Err-clause-merging
returns-in-Err-clause-merging g c = λ b1 w1 a1 a2 w0 p.
    let right = c.in-Err.ensures in
    right_stops a1 a2 w0 w1 b1 _ _ (sides_of g.B.Side.seen c.args.m.now) p c.requires.read
    (side_with c.args.m.now.shared (g.B.Side.seen c.read_on.new.self)) c.in-Err.fault c.right_refused.result
    c.right_refused.ensures c.requires.fits.left_few right.unread (λ done low s. right.stands a2 done low s)

pub returns-in-Err-clause-blames : goal.returns-in-Err-clause-blames
returns-in-Err-clause-blames g c =
    told_right (stream g.B.ReadFrom.left g.B.ReadFrom.failures c.args.r2.now c.read_on.new.text)
    (record {
      left = side_with c.args.m.now.shared c.args.m.now.left;
      right =
          side_with c.args.m.now.shared (g.B.Side.seen c.read_on.new.self);
      written = c.args.m.now.written;
    })
    c.in-Err.fault c.right_refused.result c.right_refused.ensures c.in-Err.ensures.reader
