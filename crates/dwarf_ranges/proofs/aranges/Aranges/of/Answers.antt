use Rattle.dwarf_ranges.proofs.ArangeLemmas.{all_sets}
use Rattle.dwarf_ranges.proofs.aranges.Aranges.of.Goals as goal

pub returns : goal.returns
returns c = all_sets c.args.debug_aranges.now
