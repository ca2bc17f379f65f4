use Rattle.std.proofs.Common.{ap, arith, length}
use Rattle.table_source_frames_build.specs.Kept.{text_at}
use Rattle.table_source_frames_build.specs.KeptViews.{kept_view}
use Rattle.table_source_frames_build.proofs.LoopLemmas.{left_more, too_much}
use Rattle.table_source_frames_build.proofs.kept.Kept.texts_len.Goals as goal

pub returns-in_err-left : goal.returns-in_err-left
returns-in_err-left c =
    rw c.from_residual.ensures (too_much (text_at (kept_view c.args.self.now)) c.args.texts.now c.loop-text.text-index
    c.loop-text.left c.args.most (length c.text_of.result.now) c.loop-text-test.true c.loop-text.invariant
    (ap length c.text_of.ensures) (rw c.in_err-left.was at c.checked_sub.ensures))

pub loop-text-preserved : goal.loop-text-preserved
loop-text-preserved c =
    left_more (text_at (kept_view c.args.self.now)) c.args.texts.now c.loop-text.text-index c.loop-text.left c.args.most
    (length c.text_of.result.now) c.in_ok-left.left c.loop-text-test.true c.loop-text.invariant
    (ap length c.text_of.ensures)
    (omega (arith, c.in_ok-left.ensures.0, c.in_ok-left.ensures.1))
