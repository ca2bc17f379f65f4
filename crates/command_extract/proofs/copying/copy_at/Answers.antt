use Rattle.std.proofs.Common.{ℕ, ◌∙◌, take, arith, refl, subst, sym, length-take}
use Rattle.byte_device.specs.Devices.{FailedIn}
use Rattle.command_extract.proofs.Passes.{gone_more, gone_part}
use Rattle.command_extract.proofs.copying.copy_at.Goals as goal

pub returns-in-Err-push_all : goal.returns-in-Err-push_all
returns-in-Err-push_all g c =
    let whole = g.P.Placed.whole in
    let held = g.W.Sink.held in
    let inv = c.copying.invariant in
    let n = c.in-Ok.n in
    let buffer = c.take_piece.new.buffer in
    let k = c.in-Err-push_all.fault.written in
    let err = c.in-Err-push_all.ensures.err in
    let part = gone_part (whole c.args.device.now) (whole c.copying.device) (held c.args.w.now) (held c.copying.w)
    (held c.push_all.new.w) c.args.at c.copying.done n buffer c.copying.hasher
    inv.gone c.in-Ok.ensures.room inv.keeps c.in-Ok.ensures.bytes k err.within err.gained in
    record {
      keeps = c.in-Ok.ensures.keeps ∙ inv.keeps;
      copies = record {
        bytes = part.all;
        gains = record { stands = part.stands; gained = part.gained };
        fewer = omega (arith, part.long, err.within, length-take n buffer, c.in-Ok.ensures.most, c.copying-test.true);
        stops = (
          sym part.long,
          c.in-Ok.ensures.count.1 ∙ inv.unfailed,
          subst (λ (m : ℕ). FailedIn m (g.W.Sink.failures c.push_all.new.w)) inv.unfailed_sink c.in-Err-push_all.ensures.failed,
        );
      };
    }

pub copying-preserved : goal.copying-preserved
copying-preserved g c =
    let whole = g.P.Placed.whole in
    let held = g.W.Sink.held in
    let inv = c.copying.invariant in
    let n = c.in-Ok.n in
    let buffer = c.take_piece.new.buffer in
    record {
      room = omega (arith, c.take_piece.auto.buffer, inv.room);
      within = omega (arith, c.in-Ok.ensures.most, inv.within, c.copying-test.true);
      gone = gone_more (whole c.args.device.now) (whole c.copying.device) (held c.args.w.now) (held c.copying.w)
          (held c.push_all.new.w) c.args.at c.copying.done n buffer c.copying.hasher
          inv.gone c.in-Ok.ensures.room inv.keeps c.in-Ok.ensures.bytes (take n buffer) c.update.new.self refl
          c.in_default.ensures.ok (λ m h. c.update.ensures m h);
      keeps = c.in-Ok.ensures.keeps ∙ inv.keeps;
      unfailed = c.in-Ok.ensures.count.1 ∙ inv.unfailed;
      unfailed_sink = c.in_default.ensures.unfailed ∙ inv.unfailed_sink;
    }
