use Rattle.std.proofs.Common.{get_or}
use Rattle.dwarf_source_frames.specs.SectionsViews.{sections_view}
use Rattle.dwarf_asked_frames.proofs.FoundLemmas.{no_unit}
use Rattle.dwarf_asked_frames.proofs.unit_frames.find_unit.Goals as goal

pub find_in-requires : goal.find_in-requires
find_in-requires c = record {
  within = c.in-Some.ensures.within;
  range = c.in_ok-lines.ensures.range;
  lines_are = c.in_ok-lines.ensures.value;
  rising = c.requires.rising;
  unit_is = λ i h. record { place = c.args.place; is_unit = c.requires.unit.each i h; read = c.in-Some.ensures.value };
  right = c.requires.right;
}

pub returns-in_default-clause-each : goal.returns-in_default-clause-each
returns-in_default-clause-each c = λ i h.
    no_unit (sections_view c.args.info.now.sections) c.args.found.now (get_or c.args.addresses.now i 0) c.args.place
    c.requires.right (c.requires.unit.each i h) c.in_default.ensures.value
