use Rattle.std.proofs.Common.{refl}
use Rattle.byte_device.proofs.Known.{Appends-none}
use Rattle.command_common.specs.Outputs.{outs, writer}
use Rattle.command_archives.proofs.Streamed.{merged, stopped}
use Rattle.command_archives.proofs.merge.merge_one.Goals as goal

pub returns-in-Err : goal.returns-in-Err
returns-in-Err g c =
    stopped g.R.Source.left g.R.Source.failures _ _ g.S.Source.left g.S.Source.failures _ _
    (outs g.T.Draft.Sink.held g.T.Draft.Sink.failures g.T.Target.published g.T.Target.failures c.args.out.now
    (record { draft = c.merge_streams.new.w; target = c.args.out.now.target }))
    (writer g.P.Sink.held g.P.Sink.failures c.args.report.now c.args.report.now) c.in-Err.fault
    c.command_fault_of.result c.in-Err.ensures.merges c.in-Err.ensures.written c.command_fault_of.ensures
    (refl, refl) (Appends-none _, refl)

pub returns-in-Ok : goal.returns-in-Ok
returns-in-Ok g c =
    let m = c.in-Ok.ensures.merges in
    merged g.R.Source.left g.R.Source.failures _ _ g.S.Source.left g.S.Source.failures _ _
    (outs g.T.Draft.Sink.held g.T.Draft.Sink.failures g.T.Target.published g.T.Target.failures c.args.out.now c.publish_draft.new.out) _
    c.merge_streams.new.w c.in-Ok.sizes m _ c.new.ensures.bytes c.publish_draft.result
    (c.publish_draft.ensures c.args.out.now.draft _ (m.written_is.written, m.written_is.unfailed) m.written_is.bytes_are)
