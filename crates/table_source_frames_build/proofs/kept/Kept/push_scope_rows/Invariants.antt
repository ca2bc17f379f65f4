use Rattle.std.proofs.Common.{◌≡◌, ◌++◌, take}
use Rattle.table_source_frames_build.specs.KeptViews.{kept_view}
use Rattle.table_source_frames_build.specs.PartBytes.{scope_rows, text_numbers}
use Rattle.table_source_frames_build.proofs.kept.Kept.push_scope_rows.Given as goal

abbrev pub invariant-loop-number : goal.invariant-loop-number
invariant-loop-number l =
    l.text.items ≡ l.fn.text.items ++ scope_rows (kept_view l.self) l.parts.scopes.order.items
    l.parts.files.order.items (text_numbers l.parts) (take l.number-index l.numbers)
