use Rattle.std.proofs.Common.{◌<◌, Option, arith, None, length, get_or, subst, sym, reverse, below_more}
use Rattle.std.proofs.lemmas.List.{get_or_read, length-map}
use Rattle.dwarf_functions.specs.Links.{IsLinkOf}
use Rattle.dwarf_functions.specs.LinkViews.{link_view, links_view}
use Rattle.dwarf_functions.proofs.LinkFrameLemmas.{number_within}
use Rattle.dwarf_lines.specs.Covering.{IsCovering}
use Rattle.dwarf_lines.specs.declared.registers.Row.{Row}
use Rattle.dwarf_source_frames.specs.Scopes.{calls_of}
use Rattle.dwarf_source_frames.specs.AddressFrames.{AreFramesBy, rows_of}
use Rattle.dwarf_source_frames.specs.FrameViews.{lines_view}
use Rattle.dwarf_source_frames.specs.SectionsViews.{sections_view}
use Rattle.dwarf_source_frames.specs.UnitViews.{unit_view}
use Rattle.dwarf_asked_frames.specs.FoundFrames.{frames_of_list}
use Rattle.dwarf_asked_frames.proofs.FoundLemmas.{frames_by, right_put, found_put, kept_put}
use Rattle.dwarf_asked_frames.proofs.unit_frames.find_in.Goals as goal

pub loop-i-init : goal.loop-i-init
loop-i-init c = record { right = c.requires.right; each = λ k h. absurd (omega (arith, h)); kept = λ a before. before }

pub frames_at-requires : goal.frames_at-requires
frames_at-requires c =
    let i = c.loop-i.i in
    let s = sections_view c.args.info.now.sections in
    let links = c.in_ok-links.links.links.items in
    let less : i < length c.args.addresses.now = omega arith in
    let inside : i < length c.in_ok-links.links.numbers.items = omega (arith, less, c.in_ok-links.ensures.count) in
    let number = get_or_read c.in_ok-links.links.numbers.items _ _ inside c.index-in-loop-i.ensures 0 in
    let is = c.in_ok-links.ensures.each i less in
    let within = number_within s (unit_view c.args.unit.now) (links_view links)
    (get_or c.in_ok-links.links.numbers.items i 0) (calls_of (reverse is.chain)) is.are_entries in
    record {
      callers = c.in_ok-links.ensures.callers;
      within = omega (arith, number, within, length-map links link_view);
    }

pub loop-i-preserved : goal.loop-i-preserved
loop-i-preserved c =
    let i = c.loop-i.i in
    let a = get_or c.args.addresses.now i 0 in
    let s = sections_view c.args.info.now.sections in
    let unit = unit_view c.args.unit.now in
    let lines = lines_view c.args.lines.now in
    let old = c.loop-i.found in
    let new = c.put_frames.new.found in
    let list = c.in_ok-list.list in
    let links = c.in_ok-links.links in
    let rows = c.in_ok-steps.steps.rows.items in
    let less : i < length c.args.addresses.now = omega arith in
    let in_rows : i < length rows = omega (arith, less, c.in_ok-steps.ensures.len) in
    let in_numbers : i < length links.numbers.items = omega (arith, less, c.in_ok-links.ensures.count) in
    let is_row = get_or_read rows _ _ in_rows c.index.ensures None in
    let is_number = get_or_read links.numbers.items _ _ in_numbers c.index-in-loop-i.ensures 0 in
    let is : AreFramesBy s a (frames_of_list list) =
    frames_by s unit lines (links_view links.links.items) a _ _ _ (c.requires.unit_is i less) c.requires.lines_are
    (subst (λ n. IsLinkOf s unit (links_view links.links.items) a n) (sym is_number) (c.in_ok-links.ensures.each i less))
    (subst (λ (r : Option Row). IsCovering (rows_of lines) a r) (sym is_row) (c.in_ok-steps.ensures.each i less)) c.in_ok-list.ensures in
    let here = c.in_ok-put_frames.ensures.here in
    let others = c.in_ok-put_frames.ensures.others in
    record {
      right = right_put s old new a list here others is c.loop-i.invariant.right;
      each = below_more _ _ (λ k h. kept_put s old new a list here others is (get_or c.args.addresses.now k 0)
          (c.loop-i.invariant.each k h)) (found_put s old new a list here others is);
      kept = λ b before. kept_put s old new a list here others is b (c.loop-i.invariant.kept b before);
    }

pub returns-clause-right : goal.returns-clause-right
returns-clause-right c = c.loop-i.invariant.right

pub returns-clause-each : goal.returns-clause-each
returns-clause-each c = λ k h. c.loop-i.invariant.each k (omega (arith, h))

pub returns-clause-kept : goal.returns-clause-kept
returns-clause-kept c = c.loop-i.invariant.kept
