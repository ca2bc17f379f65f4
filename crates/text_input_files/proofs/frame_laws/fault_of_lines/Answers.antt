use Rattle.text_input_files.proofs.FrameMeant.{fault_lines, fault_said}
use Rattle.text_input_files.proofs.frame_laws.fault_of_lines.Goals as goal

pub returns : goal.returns
returns c = record { lines = fault_lines; listed = fault_said }
