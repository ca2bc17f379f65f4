use Rattle.dwarf_source_frames.specs.DebugSections.{debug_sections}
use Rattle.dwarf_source_frames.proofs.LawLemmas.{none_by}
use Rattle.dwarf_source_frames.proofs.laws.no_frames_without_dwarf.Goals as goal

pub returns : goal.returns
returns c = λ image a frames none p. none_by (debug_sections image) a frames none p
