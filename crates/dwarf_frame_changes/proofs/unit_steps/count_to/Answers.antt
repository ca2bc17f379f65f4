use Rattle.std.proofs.Common.{nat_le, rules}
use Rattle.std.proofs.lemmas.List.Sorted.{IsPartitionPoint-from_clause}
use Rattle.dwarf_frame_changes.proofs.StepWalks.{count_of_point, parted}
use Rattle.dwarf_frame_changes.proofs.unit_steps.count_to.Goals as goal

pub returns : goal.returns
returns c = λ rising.
    count_of_point c.args.starts.now c.args.address c.partition_point.result (search rules)
    (IsPartitionPoint-from_clause (λ t. nat_le t c.args.address) c.args.starts.now c.partition_point.result c.partition_point.ensures.partitioned
    (parted c.args.starts.now c.args.address rising) (λ a r f k. search rules))
