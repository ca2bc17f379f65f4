use Rattle.std.proofs.Common.{map, ap, ◌∙◌, arith}
use Rattle.std.proofs.lemmas.List.{take_all}
use Rattle.dwarf_source_frames.specs.FrameViews.{frame_view}
use Rattle.table_source_frames.specs.FrameViews.{owned_frame_view}
use Rattle.index_lookup.proofs.Columns.{rows_more}
use Rattle.index_lookup.proofs.answers.borrowed_each.Goals as goal

pub frames-preserved : goal.frames-preserved
frames-preserved c =
    rows_more owned_frame_view frame_view c.args.frames.now c.frames.frame-index c.frame-item.result
    c.frames.borrowed.items c.push.new.self.items c.borrowed.result c.frames-test.true c.frame-item.is
    c.in_ok-push.ensures.items
    c.borrowed.ensures c.frames.invariant

pub returns : goal.returns
returns c = c.frames.invariant ∙ ap (map owned_frame_view) (take_all c.frames.frame-index c.args.frames.now (omega (arith, c.frames-test.false)))
