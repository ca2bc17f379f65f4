use Rattle.dwarf_source_frames.proofs.debug_sections.DebugSections.of.Goals as goal

pub returns : goal.returns
returns c = cc
