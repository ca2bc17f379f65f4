use Rattle.text_reports.proofs.FrameTexts.{next_byte, no_byte}
use Rattle.text_reports.proofs.frames.push_name.Goals as goal

pub bytes-preserved : goal.bytes-preserved
bytes-preserved c = next_byte _ _ _ _ _ _ c.in-Some.ensures.cases.0 c.in_ok-push_byte.ensures c.bytes.invariant

pub returns : goal.returns
returns c = no_byte _ _ _ c.in_default.ensures.cases c.bytes.invariant
