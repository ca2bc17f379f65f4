use Rattle.std.proofs.Common.{inl, refl}
use Rattle.byte_device.proofs.Known.{Appends-none, Consumes-none}
use Rattle.archive_merge.proofs.Starts.{magic_read, stops_start}
use Rattle.archive_merge.proofs.ArrivalTurns.{tells_start}
use Rattle.archive_merge.proofs.streams.begin_both.Goals as goal

pub returns-in-Err-put-clause-telling : goal.returns-in-Err-put-clause-telling
returns-in-Err-put-clause-telling g c =
    let e = c.in-Err-put.ensures in
    let l = c.in-Ok.ensures in
    let r = c.in-Ok-begin.ensures in
    stops_start _ _ _ _ _ _ c.in-Ok.side (g.B.Side.seen c.in-Ok-begin.side) l.archive r.archive l.read r.read l.unread
    r.unread c.magic.result c.magic.ensures c.in-Err-put.fault.written e.some e.written_is e.first

pub returns-in-Ok-put-clause-telling : goal.returns-in-Ok-put-clause-telling
returns-in-Ok-put-clause-telling g c =
    let o = c.in-Ok-put.ensures in
    let l = c.in-Ok.ensures in
    let r = c.in-Ok-begin.ensures in
    rw c.none.ensures (tells_start _ _ _ _ _ _ c.in-Ok.side (g.B.Side.seen c.in-Ok-begin.side) l.archive r.archive
    l.read r.read l.unread r.unread c.magic.result c.magic.ensures c.in-Ok-put.bytes o.size_is o.gained)

pub returns-in-Err-begin-clause-telling : goal.returns-in-Err-begin-clause-telling
returns-in-Err-begin-clause-telling g c =
    let l = c.in-Ok.ensures in
    rw c.before_the_magic-in-Err-begin.ensures (inl (
      refl,
      Appends-none (g.W.Sink.held c.args.w.now),
      magic_read _ _ _ c.in-Ok.side.reader l.archive l.read,
      c.in-Err-begin.ensures.stops,
    ))

pub returns-in-Err-clause-telling : goal.returns-in-Err-clause-telling
returns-in-Err-clause-telling g c =
    rw c.before_the_magic.ensures (inl (
      refl,
      Appends-none (g.W.Sink.held c.args.w.now),
      Consumes-none (g.B.ReadFrom.left c.args.r2.now),
      c.in-Err.ensures.stops,
    ))

pub returns-in-Err-begin-clause-devices : goal.returns-in-Err-begin-clause-devices
returns-in-Err-begin-clause-devices g c = rw c.before_the_magic-in-Err-begin.ensures (c.in-Ok.ensures.reader, c.in-Err-begin.ensures.reader, refl)
