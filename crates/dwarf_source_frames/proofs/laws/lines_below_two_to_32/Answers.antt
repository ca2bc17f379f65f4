use Rattle.dwarf_source_frames.specs.DebugSections.{debug_sections}
use Rattle.dwarf_source_frames.proofs.LawLemmas.{small_by}
use Rattle.dwarf_source_frames.proofs.laws.lines_below_two_to_32.Goals as goal

pub returns : goal.returns
returns c = λ image a frames p. small_by (debug_sections image) a frames p
