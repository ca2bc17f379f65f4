use Rattle.std.proofs.Common.{◌∙◌, ◌++◌, List, ap, arith, length}
use Rattle.dwarf_ranges.specs.declared.range.CodeRange.{CodeRange}
use Rattle.dwarf_frame_changes.specs.Turns.{ends_of}
use Rattle.dwarf_source_frames.specs.SectionsViews.{sections_view}
use Rattle.dwarf_frame_changes.proofs.CollectLemmas.{units_all, units_more}
use Rattle.dwarf_frame_changes.proofs.unit_boundaries.push_units.Goals as goal

pub units-preserved : goal.units-preserved
units-preserved c =
    let s = sections_view c.args.info.now.sections in
    let size = length c.args.info.now.sections.debug_info.now in
    record {
      within = omega (arith, c.units.invariant.within, c.in-Some.ensures.shorter);
      so_far = units_more s size c.units.rest.now c.in-Some.bytes.now c.in-Some.after.now c.units.starts.items
          c.push_ranges.new.starts.items _ c.in-Some.ensures.value
          (c.in_ok-push_ranges.ensures ∙ ap (λ (rs : List CodeRange). c.units.starts.items ++ ends_of rs) c.own_ranges.ensures) c.units.invariant.so_far;
    }

pub returns : goal.returns
returns c =
    units_all (sections_view c.args.info.now.sections) (length c.args.info.now.sections.debug_info.now) c.units.rest.now
    c.units.starts.items _ c.in_default.ensures.value c.units.invariant.so_far
