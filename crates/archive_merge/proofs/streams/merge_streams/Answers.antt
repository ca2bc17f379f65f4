use Rattle.byte_device.specs.Devices.{stream}
use Rattle.archive_merge.proofs.Merges.{counted, merges}
use Rattle.archive_merge.proofs.streams.merge_streams.Goals as goal

pub returns : goal.returns
returns g c =
    let taken = c.merge_taken.ensures in
    record {
      merges = merges (stream g.R.Source.left g.R.Source.failures c.args.left.now c.merge_taken.new.r1)
          (stream g.S.Source.left g.S.Source.failures c.args.right.now c.merge_taken.new.r2)
          (stream g.W.Sink.held g.W.Sink.failures c.args.w.now c.merge_taken.new.w) c.merge_taken.result taken.leaves
          taken.devices;
      written = counted _ _ _ _ _ _ c.merge_taken.result taken.leaves;
    }
