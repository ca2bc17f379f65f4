use Rattle.dwarf_source_frames.specs.DebugSections.{debug_sections}
use Rattle.dwarf_source_frames.proofs.LawLemmas.{one_by}
use Rattle.dwarf_source_frames.proofs.laws.one_list_of_frames.Goals as goal

pub returns : goal.returns
returns c = λ image a one other p q. one_by (debug_sections image) a one other p q
