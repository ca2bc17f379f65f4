use Rattle.std.proofs.Common.{refl}
use Rattle.archive_records.proofs.Blamed.{failed}
use Rattle.byte_device.proofs.Known.{Appends-none}
use Rattle.command_archives.specs.Copying.{copying}
use Rattle.command_archives.proofs.Streamed.{stopped_begun}
use Rattle.command_archives.proofs.Deltas.{unnamed_published}
use Rattle.command_archives.proofs.delta.write_unnamed.Goals as goal

pub returns-in_err-sizes : goal.returns-in_err-sizes
returns-in_err-sizes g c =
    rw (failed c.from_residual.result _ c.from_residual.ensures.1)
    (stopped_begun _ (λ archive. copying archive c.args.named.now) _ _ _ c.in_err-sizes.ensures.1 c.in_err-sizes.ensures.2 c.in_err-sizes.ensures.0
    (refl, refl) (Appends-none _, refl))

pub returns : goal.returns
returns g c =
    let u = c.in_ok-sizes.ensures in
    unnamed_published _ _ _ _ u _ c.new.ensures.bytes _ _ c.publish_draft.result
    (c.publish_draft.ensures c.args.out.now.draft _ (u.written_is.written, u.written_is.unfailed)
    u.written_is.bytes_are)
