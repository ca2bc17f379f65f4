use Rattle.text_reports.specs.InnerSlices.{AnswersBeside, row_key}
use Rattle.text_reports.proofs.Kept.{AreOfFirst}
use Rattle.text_reports.proofs.slices.answering_live_rows.Given as goal

abbrev pub invariant-rows : goal.invariant-rows
invariant-rows l = AreOfFirst row_key (AnswersBeside l.companions.items) l.live l.row-index l.rows.items
