use Rattle.std.proofs.Common.{◌≡◌, ◌++◌, take, string_bytes}
use Rattle.std.specs.List.{flat_map}
use Rattle.text_reports.specs.Report.{line}
use Rattle.text_reports.specs.Finds.{find_row_text}
use Rattle.text_reports.proofs.finds.push_rows.Given as goal

abbrev pub invariant-rows : goal.invariant-rows
invariant-rows l = string_bytes l.text ≡ string_bytes l.initial.text ++ flat_map (λ row. line (find_row_text l.form row)) (take l.row-index l.rows)
