use Rattle.std.proofs.Common.{◌≡◌, ◌++◌, take, string_bytes}
use Rattle.text_reports.specs.Answers.{owns_lines}
use Rattle.text_reports.specs.FrameLists.{lists_view}
use Rattle.text_reports.proofs.answers.push_owns.Given as goal

abbrev pub invariant-owns : goal.invariant-owns
invariant-owns l = string_bytes l.text ≡ string_bytes l.initial.text ++ owns_lines (take l.index l.owns) (lists_view l.frames)
