use Rattle.dwarf_source_frames.specs.DebugSections.{debug_sections}
use Rattle.dwarf_frame_changes.proofs.FramesStay.{no_frames_before}
use Rattle.dwarf_frame_changes.proofs.laws.no_frames_before_turns.Goals as goal

pub returns : goal.returns
returns c = λ image a frames fits none are. no_frames_before (debug_sections image) a frames fits none are
