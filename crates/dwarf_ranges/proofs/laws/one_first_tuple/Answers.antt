use Rattle.dwarf_ranges.proofs.TupleLemmas.{one_first_tuple}
use Rattle.dwarf_ranges.proofs.laws.one_first_tuple.Goals as goal

pub returns : goal.returns
returns c = one_first_tuple
