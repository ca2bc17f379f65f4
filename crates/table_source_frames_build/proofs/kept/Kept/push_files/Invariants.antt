use Rattle.std.proofs.Common.{◌≡◌, ◌++◌, take}
use Rattle.table_source_frames_build.specs.KeptViews.{kept_view}
use Rattle.table_source_frames_build.specs.PartBytes.{file_rows, text_numbers}
use Rattle.table_source_frames_build.proofs.kept.Kept.push_files.Given as goal

abbrev pub invariant-loop-number : goal.invariant-loop-number
invariant-loop-number l = l.text.items ≡ l.fn.text.items ++ file_rows (kept_view l.self) (text_numbers l.parts) (take l.number-index l.numbers)
