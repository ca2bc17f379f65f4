use Rattle.command_archives.proofs.Streamed.{joined_opened, stopped_opened, taken_of, unfinished_opened}
use Rattle.command_archives.proofs.joining.join_input.Goals as goal

pub returns-in-Ok : goal.returns-in-Ok
returns-in-Ok g c =
    λ p at. joined_opened _ _ c.args.other.now c.merge_streams.new.right p at g.R.Source.left g.R.Source.failures
    c.args.input.now c.merge_streams.new.left _ _ _ c.merge_streams.new.w c.in-Ok.sizes c.in-Ok.ensures.merges

pub returns-in-Err : goal.returns-in-Err
returns-in-Err g c = (
  taken_of g.W.Sink.held g.W.Sink.failures c.args.draft.now c.merge_streams.new.w c.in-Err.fault
      c.command_fault_of.result c.in-Err.ensures.written c.command_fault_of.ensures,
  λ p at. (
    stopped_opened _ _ c.args.other.now c.merge_streams.new.right p at g.R.Source.left g.R.Source.failures c.args.input.now c.merge_streams.new.left
        _ _ _ c.merge_streams.new.w c.in-Err.fault c.command_fault_of.result c.in-Err.ensures.merges c.command_fault_of.ensures,
    unfinished_opened _ _ c.args.other.now c.merge_streams.new.right p at g.R.Source.left g.R.Source.failures c.args.input.now c.merge_streams.new.left
        _ _ _ c.merge_streams.new.w c.in-Err.fault c.in-Err.ensures.merges,
  ),
)
