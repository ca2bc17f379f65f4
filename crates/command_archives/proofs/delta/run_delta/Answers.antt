use Rattle.std.proofs.Common.{refl}
use Rattle.byte_device.proofs.Known.{Appends-none}
use Rattle.command_common.specs.Inputs.{reader}
use Rattle.command_common.specs.Outputs.{out_of, outs, writer}
use Rattle.command_archives.specs.Delta.{MakesDelta}
use Rattle.command_archives.proofs.Begun.{told_behind}
use Rattle.command_archives.proofs.Deltas.{named}
use Rattle.command_archives.proofs.delta.run_delta.Goals as goal

pub returns-in-Ok : goal.returns-in-Ok
returns-in-Ok g c =
    named (reader g.R.Source.left g.R.Source.failures c.args.archive.now c.write_unnamed.new.archive) g.S.Source.left
    g.S.Source.failures c.args.summary.now c.read_summary_input.new.summary
    (out_of (outs g.T.Draft.Sink.held g.T.Draft.Sink.failures g.T.Target.published g.T.Target.failures c.args.out.now c.write_unnamed.new.out))
    (writer g.P.Sink.held g.P.Sink.failures c.args.report.now c.write_unnamed.new.report) c.in-Ok.named
    c.in-Ok.ensures.is.0 c.in-Ok.ensures.is.1 c.in-Ok.ensures.unfailed c.write_unnamed.result
    c.write_unnamed.ensures

pub returns-in-Err : goal.returns-in-Err
returns-in-Err g c =
    let summary = reader g.S.Source.left g.S.Source.failures c.args.summary.now c.read_summary_input.new.summary in
    told_behind (λ given. MakesDelta given summary) (reader g.R.Source.left g.R.Source.failures c.args.archive.now c.first_refusal.new.input)
    _ _ _ _ _ _ c.in-Err.fault c.first_refusal.result c.in-Err.ensures c.first_refusal.ensures
    ((Appends-none _, refl), (refl, refl)) (Appends-none _, refl)
