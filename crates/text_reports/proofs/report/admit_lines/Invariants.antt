use Rattle.std.proofs.Common.{◌≡◌, take, string_bytes}
use Rattle.text_reports.specs.Report.{admit_lines}
use Rattle.text_reports.proofs.report.admit_lines.Given as goal

abbrev pub invariant-rows : goal.invariant-rows
invariant-rows l = string_bytes l.text ≡ admit_lines (take l.row-index l.rows)
