use Rattle.dwarf_lines.proofs.RunLemmas.{one_run}
use Rattle.dwarf_lines.proofs.laws.one_run.Goals as goal

pub returns : goal.returns
returns c = one_run
