use Rattle.std.proofs.Common.{Bool, sym, subst}
use Rattle.command_common.specs.Archives.{ReadsTogether}
use Rattle.command_common.specs.Inputs.{reader, readers}
use Rattle.command_queries.specs.Frames.{TellsFrames}
use Rattle.command_queries.specs.Slices.{IsAnsweringRow, WithSlices}
use Rattle.command_frames.proofs.records.frames_text.Goals as goal

pub returns-then-slices : goal.returns-then-slices
returns-then-slices g c =
    let left = g.R.Source.left in
    let failures = g.R.Source.failures in
    let keys = c.args.keys.now in
    subst (λ (slices : Bool). ReadsTogether (reader left failures c.args.archive.now c.read_and_answer_with_slices.new.archive)
    (readers left failures c.args.others.now c.read_and_answer_with_slices.new.others)
    c.read_and_answer_with_slices.result (λ told o. WithSlices slices (TellsFrames c.args.lines o c.args.frames.now)
    (IsAnsweringRow o keys) keys told.0 told.1.items))
    (sym c.if-slices.true) c.read_and_answer_with_slices.ensures

pub returns-else-slices : goal.returns-else-slices
returns-else-slices g c =
    let left = g.R.Source.left in
    let failures = g.R.Source.failures in
    let keys = c.args.keys.now in
    subst (λ (slices : Bool). ReadsTogether (reader left failures c.args.archive.now c.read_and_answer.new.archive)
    (readers left failures c.args.others.now c.read_and_answer.new.others)
    c.read_and_answer.result (λ told o. WithSlices slices (TellsFrames c.args.lines o c.args.frames.now)
    (IsAnsweringRow o keys) keys told.0 told.1.items)) (sym c.if-slices.false) c.read_and_answer.ensures
