use Rattle.dwarf_lines.proofs.RunLemmas.{one_covering}
use Rattle.dwarf_lines.proofs.laws.one_covering.Goals as goal

pub returns : goal.returns
returns c = one_covering
