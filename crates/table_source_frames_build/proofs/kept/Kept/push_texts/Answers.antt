use Rattle.std.proofs.Common.{◌∙◌, ◌++◌, ap, arith}
use Rattle.table_source_frames_build.specs.Kept.{text_at}
use Rattle.table_source_frames_build.specs.KeptViews.{kept_view}
use Rattle.table_source_frames_build.proofs.LoopLemmas.{text_next, texts_end}
use Rattle.table_source_frames_build.proofs.kept.Kept.push_texts.Goals as goal

pub loop-text-preserved : goal.loop-text-preserved
loop-text-preserved c =
    text_next (text_at (kept_view c.args.self.now)) c.args.texts.now c.loop-text.text-index c.loop-text.bytes.items
    c.extend_from_slice.new.self.items _ c.loop-text-test.true
    (c.in_ok-extend_from_slice.ensures.items ∙ ap (λ l. c.loop-text.bytes.items ++ l) c.text_of.ensures) c.loop-text.invariant

pub returns : goal.returns
returns c = texts_end (text_at (kept_view c.args.self.now)) c.args.texts.now c.loop-text.text-index
    c.loop-text.bytes.items _ (omega arith) c.loop-text.invariant
