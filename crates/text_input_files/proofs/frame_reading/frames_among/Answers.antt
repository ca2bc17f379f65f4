use Rattle.std.proofs.Common.{◌∙◌, ◌+◌, ap, arith, drop, sym}
use Rattle.text_values.specs.Lines.{seen}
use Rattle.text_input_files.specs.Frames.{frames_in}
use Rattle.text_input_files.proofs.FrameSequels.{behind, no_frame, one_more}
use Rattle.text_input_files.proofs.frame_reading.frames_among.Goals as goal

pub returns-in_default-clause-err : goal.returns-in_default-clause-err
returns-in_default-clause-err c =
    no_frame c.args.lines.now c.lines.line-index _ c.lines.frames.items _ (omega arith)
    (sym c.in_default.is ∙ c.read_frame.ensures) c.lines.invariant

pub lines-preserved : goal.lines-preserved
lines-preserved c =
    let i = c.lines.line-index in
    ap (λ es. behind es (frames_in (drop (i + 1) (seen c.args.lines.now)))) c.in_ok-push.ensures.items
    ∙ one_more c.args.lines.now i _ c.in-Some.frame c.lines.frames.items (omega arith) (sym c.in-Some.is ∙ c.read_frame.ensures)
    ∙ c.lines.invariant
