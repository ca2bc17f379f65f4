use Rattle.std.proofs.Common.{◌≡◌, ◌++◌, length, string_bytes}
use Rattle.text_reports.specs.Frames.{function_text}
use Rattle.text_reports.proofs.frames.push_name.Given as goal

abbrev pub invariant-bytes : goal.invariant-bytes
invariant-bytes l = string_bytes l.text ++ function_text l.left ≡ string_bytes l.initial.text ++ function_text l.initial.left

abbrev pub decreases-bytes : goal.decreases-bytes
decreases-bytes l = length l.left
