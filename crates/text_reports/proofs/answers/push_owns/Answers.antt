use Rattle.std.proofs.Common.{arith}
use Rattle.text_reports.specs.FrameLists.{lists_view}
use Rattle.text_reports.proofs.FrameTexts.{owns_more}
use Rattle.text_reports.proofs.answers.push_owns.Goals as goal

pub owns-preserved : goal.owns-preserved
owns-preserved c =
    owns_more c.args.owns.now (lists_view c.args.frames.now) c.owns.index _ _ _ _ _ (omega arith) c.owns.invariant
    c.in_ok-push_own.ensures c.in_ok-push_frame_list_at.ensures
