use Rattle.std.proofs.Common.{refl}
use Rattle.std.proofs.lemmas.Result.{err_from_is_err_and}
use Rattle.byte_device.proofs.Known.{Appends-none}
use Rattle.index_build.proofs.Ended.{ends_published, ends_stopped}
use Rattle.index_build.proofs.index.run_index.Goals as goal

pub returns-in_err-sizes : goal.returns-in_err-sizes
returns-in_err-sizes g c =
    let p = err_from_is_err_and c.from_residual.result c.from_residual.ensures.1 in
    rw (p.1, p.2) (ends_stopped g.R.Source.left g.R.Source.failures c.args.archive.now _ _ _ _ _ c.in_err-sizes.ensures (refl, refl) (Appends-none _, refl))

pub returns : goal.returns
returns g c =
    let made = c.in_ok-sizes.ensures in
    ends_published g.R.Source.left g.R.Source.failures c.args.archive.now _ _ _ _ _ _ made c.publish_index.result
    (c.publish_index.ensures c.args.out.now.draft made.text (made.written_is.written, made.written_is.unfailed) made.written_is.bytes_are)
