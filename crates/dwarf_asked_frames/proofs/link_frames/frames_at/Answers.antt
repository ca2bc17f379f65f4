use Rattle.std.proofs.Common.{arith, map, subst, sym}
use Rattle.dwarf_functions.specs.Links.{AreFramesOfLink, AreFramesOfRowAndLink}
use Rattle.dwarf_functions.specs.LinkViews.{links_view}
use Rattle.dwarf_source_frames.specs.FrameViews.{frame_view, lines_view}
use Rattle.dwarf_source_frames.specs.declared.frame.SourceLocation.{SourceLocation}
use Rattle.dwarf_asked_frames.specs.FoundFrames.{frames_of_list}
use Rattle.dwarf_asked_frames.proofs.LinkLemmas.{with_link}
use Rattle.dwarf_asked_frames.proofs.link_frames.frames_at.Goals as goal

pub returns-then-number-eq0 : goal.returns-then-number-eq0
returns-then-number-eq0 c =
    let lines = lines_view c.args.lines.now in
    let links = links_view c.args.links.now.links.items in
    subst (λ n. AreFramesOfRowAndLink lines links c.args.row n (frames_of_list c.in_ok-list.list)) (sym c.if-number-eq0.true) (c.in_ok-list.ensures links)

pub returns : goal.returns
returns c =
    let lines = lines_view c.args.lines.now in
    let links = links_view c.args.links.now.links.items in
    with_link lines links c.args.row c.args.number (map frame_view c.in_ok-frames.frames.items) (omega arith)
    (subst (λ (place : SourceLocation). AreFramesOfLink lines links place c.args.number
    (map frame_view c.in_ok-frames.frames.items)) c.of_row.ensures c.in_ok-frames.ensures)
