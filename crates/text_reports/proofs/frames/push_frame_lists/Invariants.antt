use Rattle.std.proofs.Common.{◌≡◌, ◌++◌, take, string_bytes}
use Rattle.std.specs.List.{flat_map}
use Rattle.text_reports.specs.FrameLists.{lists_view}
use Rattle.text_reports.specs.Frames.{frame_lines}
use Rattle.text_reports.proofs.frames.push_frame_lists.Given as goal

abbrev pub invariant-lists : goal.invariant-lists
invariant-lists l = string_bytes l.text ≡ string_bytes l.initial.text ++ flat_map frame_lines (lists_view (take l.list-index l.frames))
