use Rattle.std.proofs.Common.{◌≡◌, drop}
use Rattle.text_values.specs.Lines.{seen}
use Rattle.text_input_files.specs.Frames.{frames_in}
use Rattle.text_input_files.proofs.FrameSequels.{behind}
use Rattle.text_input_files.proofs.frame_reading.frames_among.Given as goal

-- what was read and what the lines left tell is what all lines tell
abbrev pub invariant-lines : goal.invariant-lines
invariant-lines l = behind l.frames.items (frames_in (drop l.line-index (seen l.lines))) ≡ frames_in (seen l.lines)
