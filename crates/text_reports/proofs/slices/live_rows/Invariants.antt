use Rattle.text_reports.specs.InnerSlices.{LivesBeside, row_key}
use Rattle.text_reports.proofs.Kept.{AreOfFirst}
use Rattle.text_reports.proofs.slices.live_rows.Given as goal

abbrev pub invariant-rows : goal.invariant-rows
invariant-rows l = AreOfFirst row_key (LivesBeside l.retired.items) l.pool l.row-index l.live.items
