use Rattle.std.proofs.Common.{Err, inl, inr, ◌∙◌}
use Rattle.archive_records.proofs.Blamed.{failed}
use Rattle.command_archives.proofs.Unnamed.{begun_copied, blamed, cause_of, devices_behind, ended, ended_early, unnamed}
use Rattle.command_archives.proofs.copying.copy_unnamed.Goals as goal

pub returns-in_err-reader : goal.returns-in_err-reader
returns-in_err-reader g c =
    let e = c.in_err-reader.field-0.0 in
    let st = c.in_err-reader.ensures in
    rw (failed c.from_residual.result e c.from_residual.ensures.1)
    (unnamed g.R.Source.left g.R.Source.failures _ _ g.W.Sink.held g.W.Sink.failures _ _ c.args.summary.now
    (Err e) tt (st.cause, st.stopped c.args.summary.now) st.devices)

pub returns-in_err-sizes : goal.returns-in_err-sizes
returns-in_err-sizes g c =
    let begun = c.in_ok-reader.ensures in
    let start = begun_copied c.args.summary.now (g.W.Sink.held c.args.w.now) (g.W.Sink.held c.begin_copy.new.w)
    c.in_ok-reader.begun begun.written.0 begun.written.1 in
    let e = c.in_err-sizes.field-0.0 in
    let st = c.in_err-sizes.ensures.stopped (g.R.Source.left c.args.r.now) (g.W.Sink.held c.args.w.now) begun.read.1 start in
    rw (failed c.from_residual-in_err-sizes.result e c.from_residual-in_err-sizes.ensures.1)
    (unnamed g.R.Source.left g.R.Source.failures _ _ g.W.Sink.held g.W.Sink.failures _ _ c.args.summary.now (Err e) tt (
      cause_of _ begun.read.0 c.args.summary.now _ _ _ _ e.written e.cause st.0 st.1,
      inr (_, begun.read.0, inl st.1),
    )
    (blamed g.R.Source.left g.R.Source.failures c.args.r.now c.begin_copy.new.r c.copy_records.new.r _ _ _
    begun.devices.0 begun.devices.1 e.cause c.in_err-sizes.ensures.devices))

pub returns : goal.returns
returns g c =
    let s = c.args.summary.now in
    let begun = c.in_ok-reader.ensures in
    let start = begun_copied s (g.W.Sink.held c.args.w.now) (g.W.Sink.held c.begin_copy.new.w) c.in_ok-reader.begun begun.written.0 begun.written.1 in
    let all = c.in_ok-sizes.ensures.copied (g.R.Source.left c.args.r.now) (g.W.Sink.held c.args.w.now) begun.read.1 start in
    let done = c.in_ok-sizes.ensures.devices in
    let end = c.end_copy.ensures in
    unnamed g.R.Source.left g.R.Source.failures _ _ g.W.Sink.held g.W.Sink.failures _ _ s c.end_copy.result
    (ended s _ _ _ _ _ _ _ begun.read.0 _ _ all c.end_copy.result end.at_end
    end.ended) (ended_early s _ _ _ _ _ _ _ begun.read.0 _ _ all c.end_copy.result end.stopped)
    (devices_behind g.R.Source.left g.R.Source.failures c.args.r.now c.copy_records.new.r c.end_copy.new.r _ _ _
    (done.0 ∙ begun.devices.0) (done.1 ∙ begun.devices.1) c.end_copy.result end.devices)
