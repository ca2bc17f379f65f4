use Rattle.std.proofs.Common.{◌∙◌, ◌∷◌, [], ap, arith, map}
use Rattle.std.proofs.lemmas.List.{map-append}
use Rattle.dwarf_functions.specs.LinkViews.{link_view, links_view}
use Rattle.dwarf_source_frames.specs.FrameViews.{frame_view, lines_view}
use Rattle.dwarf_asked_frames.proofs.LinkLemmas.{completes_all, completes_more, completes_none, link_read, lower_caller}
use Rattle.dwarf_asked_frames.proofs.link_frames.frames_of_link.Goals as goal

pub callers-init : goal.callers-init
callers-init c = record {
  within = c.requires.within;
  so_far = completes_none (lines_view c.args.lines.now) (links_view c.args.links.now.links.items) c.args.innermost
      c.args.number (map frame_view c.new-frames.result.items) (ap (map frame_view) c.new-frames.ensures.items);
}

pub callers-preserved : goal.callers-preserved
callers-preserved c =
    let lines = lines_view c.args.lines.now in
    let links = c.args.links.now.links.items in
    let link = c.index.result.now in
    let left = c.callers.left in
    let there = link_read links left link (omega arith) c.callers.invariant.within c.index.ensures in
    let lower = lower_caller links left link c.requires.callers there in
    record {
      within = omega (arith, lower, c.callers.invariant.within);
      so_far = completes_more lines (links_view links) c.callers.place c.args.innermost left c.args.number
          (link_view link) (map frame_view c.callers.frames.items) (map frame_view c.push.new.self.items)
          (frame_view c.frame_at.result)
          there lower c.frame_at.ensures (ap (map frame_view) c.in_ok-push.ensures.items
          ∙ map-append frame_view c.callers.frames.items (c.frame_at.result ∷ [])) c.callers.invariant.so_far;
    }

pub returns : goal.returns
returns c = completes_all (lines_view c.args.lines.now) (links_view c.args.links.now.links.items) c.callers.place
    c.args.innermost c.callers.left c.args.number (map frame_view c.callers.frames.items) (omega arith)
    c.callers.invariant.so_far

pub callers-smaller : goal.callers-smaller
callers-smaller c =
    let links = c.args.links.now.links.items in
    let link = c.index.result.now in
    let there = link_read links c.callers.left link (omega arith) c.callers.invariant.within c.index.ensures in
    lower_caller links c.callers.left link c.requires.callers there
