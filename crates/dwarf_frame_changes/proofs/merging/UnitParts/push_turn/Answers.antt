use Rattle.dwarf_source_frames.specs.FrameViews.{lines_view}
use Rattle.dwarf_frame_changes.proofs.NumberLemmas.{parts_still}
use Rattle.dwarf_frame_changes.proofs.merging.UnitParts.push_turn.Goals as goal

pub returns-clause-told : goal.returns-clause-told
returns-clause-told g c =
    parts_still (g.T.FrameSink.numbers_name c.frames.new.sink) (g.T.FrameSink.numbers_name c.push.new.self)
    (g.T.FrameSink.numbers_path c.frames.new.sink) (g.T.FrameSink.numbers_path c.push.new.self)
    (g.T.FrameSink.numbers_frames c.frames.new.sink) (g.T.FrameSink.numbers_frames c.push.new.self)
    (lines_view c.args.lines.now) c.frames.new.self c.push.ensures.names c.push.ensures.paths c.push.ensures.frames
    c.in_ok-frames.ensures.told
