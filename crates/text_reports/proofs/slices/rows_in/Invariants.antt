use Rattle.std.proofs.Common.{◌≡◌}
use Rattle.archive_core.specs.declared.find.FindRow.{FindRow}
use Rattle.text_reports.specs.InnerSlices.{row_key}
use Rattle.text_reports.proofs.Kept.{AreOfFirst}
use Rattle.text_reports.proofs.slices.rows_in.Given as goal

abbrev pub invariant-rows : goal.invariant-rows
invariant-rows l = AreOfFirst row_key (λ (row : FindRow). row.state ≡ l.state) l.rows l.row-index l.kept.items
