use Rattle.command_archives.proofs.Streamed.{taken_of}
use Rattle.command_archives.proofs.Deltas.{copied_opened, stopped_copy, unfinished_copy}
use Rattle.command_archives.proofs.delta.copy_input.Goals as goal

pub returns-in-Ok : goal.returns-in-Ok
returns-in-Ok g c =
    copied_opened g.R.Source.left g.R.Source.failures c.args.archive.now c.copy_unnamed.new.r g.W.Sink.held
    g.W.Sink.failures c.args.draft.now c.copy_unnamed.new.w c.args.named.now c.in-Ok.sizes c.in-Ok.ensures

pub returns-in-Err : goal.returns-in-Err
returns-in-Err g c = (
  taken_of g.W.Sink.held g.W.Sink.failures c.args.draft.now c.copy_unnamed.new.w c.in-Err.fault
      c.command_fault_of.result c.in-Err.ensures.count c.command_fault_of.ensures,
  stopped_copy g.R.Source.left g.R.Source.failures c.args.archive.now c.copy_unnamed.new.r g.W.Sink.held
      g.W.Sink.failures c.args.draft.now c.copy_unnamed.new.w c.args.named.now c.in-Err.fault c.command_fault_of.result
      c.in-Err.ensures c.command_fault_of.ensures,
  unfinished_copy g.R.Source.left g.R.Source.failures c.args.archive.now c.copy_unnamed.new.r g.W.Sink.held
      g.W.Sink.failures c.args.draft.now c.copy_unnamed.new.w c.args.named.now c.in-Err.fault c.in-Err.ensures,
)
