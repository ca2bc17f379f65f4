use Rattle.std.proofs.Common.{nat_lt, rules}
use Rattle.std.proofs.lemmas.List.Sorted.{IsPartitionPoint-from_clause}
use Rattle.dwarf_asked_addresses.proofs.RisingLemmas.{below_of_point, parted}
use Rattle.dwarf_asked_addresses.proofs.rising.count_below.Goals as goal

pub returns-clause-is : goal.returns-clause-is
returns-clause-is c = λ rising.
    below_of_point c.args.starts.now c.args.address c.partition_point.result (search rules)
    (IsPartitionPoint-from_clause (λ t. nat_lt t c.args.address) c.args.starts.now c.partition_point.result c.partition_point.ensures.partitioned
    (parted c.args.starts.now c.args.address rising) (λ a r f k. search rules))
