use Rattle.text_input_files.proofs.FrameMeant.{frames_lines, frames_said}
use Rattle.text_input_files.proofs.frame_laws.frames_of_lines.Goals as goal

pub returns : goal.returns
returns c = record { lines = frames_lines; listed = frames_said }
