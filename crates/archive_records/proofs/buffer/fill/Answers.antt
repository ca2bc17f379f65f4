use Rattle.std.proofs.Common.{refl, subst, ◌∙◌, arith, length-take}
use Rattle.byte_device.specs.Devices.{FailedIn}
use Rattle.byte_device.proofs.Known.{Consumes-none}
use Rattle.archive_records.proofs.Blamed.{device_blames, end_blames}
use Rattle.archive_records.proofs.FaultKinds.{memory_blames}
use Rattle.archive_records.proofs.Fills.{Fills-room, Fills-then}
use Rattle.archive_records.proofs.buffer.fill.Goals as goal

pub filling-init : goal.filling-init
filling-init g c = record {
  below = omega arith;
  fills = Fills-room _ _ c.args.buffer.now c.args.buffer.now c.requires.within refl refl refl (Consumes-none _);
  unfailed = refl;
}

pub filling-preserved : goal.filling-preserved
filling-preserved g c =
    let i = c.filling.invariant in
    let p = c.in-Ok.ensures.piece in
    record {
      below = omega (arith, p.at_is, p.bound, c.min-want.ensures, length-take c.min-want.result c.filling.chunk);
      fills = Fills-then i.fills (Fills-then (Fills-room _ _ c.filling.buffer
          (record { bytes = c.make_room.new.bytes; at = c.filling.buffer.at; order = c.filling.buffer.order })
          c.filling.invariant.fills.within c.make_room.ensures.same refl refl (Consumes-none _))
          c.pull_piece.ensures.fills);
      unfailed = c.in-Ok.ensures.count.1 ∙ i.unfailed;
    }

pub returns-in-Ok-eq0-clause-fills : goal.returns-in-Ok-eq0-clause-fills
returns-in-Ok-eq0-clause-fills g c = Fills-then c.filling.invariant.fills
    (Fills-then (Fills-room _ _ c.filling.buffer (record
    { bytes = c.make_room.new.bytes; at = c.filling.buffer.at; order = c.filling.buffer.order })
    c.filling.invariant.fills.within c.make_room.ensures.same refl refl (Consumes-none _)) c.pull_piece.ensures.fills)

pub returns-in-Ok-eq0-clause-reader : goal.returns-in-Ok-eq0-clause-reader
returns-in-Ok-eq0-clause-reader g c =
    end_blames g.R.Source.left g.R.Source.failures c.args.r.now c.pull_piece.new.r (c.in-Ok-eq0.ensures.count.1 ∙ c.filling.invariant.unfailed)
    (c.in-Ok-eq0.ensures.piece.end c.in-Ok-eq0.field-0-test
    (omega (arith, length-take c.min-want.result c.filling.chunk, c.min-want.ensures, c.filling.auto.chunk)))

pub returns-in-Err-pull_piece-clause-fills : goal.returns-in-Err-pull_piece-clause-fills
returns-in-Err-pull_piece-clause-fills g c = Fills-then c.filling.invariant.fills
    (Fills-then (Fills-room _ _ c.filling.buffer (record
    { bytes = c.make_room.new.bytes; at = c.filling.buffer.at; order = c.filling.buffer.order })
    c.filling.invariant.fills.within c.make_room.ensures.same refl refl (Consumes-none _)) c.pull_piece.ensures.fills)

pub returns-in-Err-pull_piece-clause-reader : goal.returns-in-Err-pull_piece-clause-reader
returns-in-Err-pull_piece-clause-reader g c =
    device_blames g.R.Source.left g.R.Source.failures c.args.r.now c.pull_piece.new.r
    (subst (λ n. FailedIn n (g.R.Source.failures c.pull_piece.new.r)) c.filling.invariant.unfailed c.in-Err-pull_piece.ensures.count)

pub returns-in-Err-clause-fills : goal.returns-in-Err-clause-fills
returns-in-Err-clause-fills g c = Fills-then c.filling.invariant.fills
    (Fills-room _ _ c.filling.buffer (record {
      bytes = c.make_room.new.bytes;
      at = c.filling.buffer.at;
      order =
          c.filling.buffer.order;
    }) c.filling.invariant.fills.within c.make_room.ensures.same refl refl (Consumes-none _))

pub returns-in-Err-clause-reader : goal.returns-in-Err-clause-reader
returns-in-Err-clause-reader g c =
    memory_blames g.R.Source.left g.R.Source.failures c.args.r.now c.filling.r c.filling.invariant.unfailed
