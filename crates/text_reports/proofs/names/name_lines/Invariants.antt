use Rattle.std.proofs.Common.{◌≡◌, take, string_bytes}
use Rattle.std.specs.List.{flat_map}
use Rattle.archive_core.specs.Names.{owned_name_view}
use Rattle.text_reports.specs.Names.{name_row_text}
use Rattle.text_reports.specs.Report.{line}
use Rattle.text_reports.proofs.names.name_lines.Given as goal

abbrev pub invariant-rows : goal.invariant-rows
invariant-rows l = string_bytes l.text ≡ flat_map (λ row. line (name_row_text (owned_name_view row))) (take l.row-index l.rows)
