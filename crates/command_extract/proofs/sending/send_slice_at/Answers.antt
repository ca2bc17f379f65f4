use Rattle.std.proofs.Common.{ℕ, ◌+◌, subst}
use Rattle.byte_device.specs.Devices.{stream}
use Rattle.command_extract.specs.Sending.{SendsAt}
use Rattle.command_extract.proofs.sending.send_slice_at.Goals as goal

pub returns : goal.returns
returns g c =
    let device = stream g.P.Placed.whole g.P.Placed.failures c.args.device.now c.send_at.new.device in
    let w = stream g.W.Sink.held g.W.Sink.failures c.args.w.now c.send_at.new.w in
    subst (λ (start : ℕ). SendsAt device w (start + 33) c.args.size c.args.digest.now c.send_at.result) c.from-start.ensures c.send_at.ensures
