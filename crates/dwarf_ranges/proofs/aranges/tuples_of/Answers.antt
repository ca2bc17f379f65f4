use Rattle.std.proofs.Common.{sym}
use Rattle.dwarf_ranges.proofs.ArangeLemmas.{other_set, read_set}
use Rattle.dwarf_ranges.proofs.aranges.tuples_of.Goals as goal

pub returns-in-Some : goal.returns-in-Some
returns-in-Some c = read_set _ _ _ (sym c.in-Some.ensures)

pub returns-in-None : goal.returns-in-None
returns-in-None c = other_set _ (sym c.in-None.ensures)
