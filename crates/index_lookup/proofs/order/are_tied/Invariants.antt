use Rattle.std.proofs.Common.{map}
use Rattle.index_lookup.specs.InnerAnswering.{entry_at}
use Rattle.index_lookup.proofs.Tied.{ArePassed}
use Rattle.index_lookup.proofs.order.are_tied.Given as goal

abbrev pub invariant-entries : goal.invariant-entries
invariant-entries l = ArePassed (map entry_at l.entries) l.next-index (entry_at l.first) l.differ
