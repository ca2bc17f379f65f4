use Rattle.std.proofs.Common.{refl}
use Rattle.std.proofs.lemmas.Result.{err_from_is_err_and}
use Rattle.byte_device.proofs.Known.{Appends-none}
use Rattle.command_common.specs.declared.faults.CommandFault.TheVariants.{OutOfMemory}
use Rattle.command_extract.proofs.Sent.{sent, unbegun, unsent}
use Rattle.command_extract.proofs.sending.send_named.Goals as goal

pub returns-in_err-piece : goal.returns-in_err-piece
returns-in_err-piece g c =
    let p = err_from_is_err_and c.from_residual.result c.from_residual.ensures.1 in
    rw (p.1, p.2) (λ x names. unbegun _ x _ OutOfMemory (Appends-none _, refl) (refl, (Appends-none _, refl)))

pub returns-in-Ok : goal.returns-in-Ok
returns-in-Ok g c =
    λ x names. sent g.P.Placed.whole g.P.Placed.failures g.W.Sink.held g.W.Sink.failures c.args.archive.now
    c.send_slice_at.new.device c.args.draft.now c.send_slice_at.new.w c.args.named.now x names c.in-Ok.ensures.sends

pub returns : goal.returns
returns g c =
    rw c.told.ensures
    (λ x names. unsent g.P.Placed.whole g.P.Placed.failures g.W.Sink.held g.W.Sink.failures c.args.archive.now
    c.send_slice_at.new.device c.args.draft.now c.send_slice_at.new.w c.args.named.now x names c.in-Err.fault
    c.in-Err.ensures.sends)
