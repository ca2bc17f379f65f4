use Rattle.dwarf_source_frames.specs.DebugSections.{debug_sections}
use Rattle.dwarf_frame_changes.proofs.FramesStay.{frames_stay}
use Rattle.dwarf_frame_changes.proofs.laws.same_between_turns.Goals as goal

pub returns : goal.returns
returns c = λ image a b frames less fits none are. frames_stay (debug_sections image) a b fits none frames less are
