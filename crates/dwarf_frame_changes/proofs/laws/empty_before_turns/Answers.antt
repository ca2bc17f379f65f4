use Rattle.dwarf_source_frames.specs.DebugSections.{debug_sections}
use Rattle.dwarf_frame_changes.proofs.FramesStay.{empty_before}
use Rattle.dwarf_frame_changes.proofs.laws.empty_before_turns.Goals as goal

pub returns : goal.returns
returns c = λ image a fits none. empty_before (debug_sections image) a fits none
