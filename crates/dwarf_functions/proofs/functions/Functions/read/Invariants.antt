use Rattle.std.specs.Option.{option_map}
use Rattle.dwarf_ranges.specs.UnitViews.{unit_view as ranges_view}
use Rattle.dwarf_source_frames.specs.Scopes.{scopes_from, scopes_of}
use Rattle.dwarf_source_frames.specs.SectionsViews.{sections_view}
use Rattle.dwarf_source_frames.specs.UnitViews.{unit_view}
use Rattle.dwarf_functions.specs.Asked.{asked_scopes}
use Rattle.dwarf_functions.specs.Origins.{AreNamed}
use Rattle.dwarf_functions.specs.UnitFunctions.{functions_from}
use Rattle.dwarf_functions.proofs.ReadToLemmas.{AreReadTo}
use Rattle.dwarf_functions.proofs.functions.Functions.read.Given as goal

abbrev pub invariant-loop-placed : goal.invariant-loop-placed
invariant-loop-placed l = record {
  can : (goal.iterator-loop-placed).can_next l.placed-iterator;
  ends : (goal.iterator-loop-placed).is_finite l.placed-iterator;
  named : AreNamed (sections_view l.info.sections) l.all.functions.items l.all.origins;
  so_far : AreReadTo (sections_view l.info.sections) (unit_view l.unit)
      (functions_from 0 (asked_scopes (option_map (λ a. a.now) l.asked) (scopes_of (sections_view l.info.sections) (unit_view l.unit))))
      (asked_scopes (option_map (λ a. a.now) l.asked) (scopes_from (ranges_view l.ranges) l.left l.placed-iterator))
      l.all.functions.items l.all.ranges.items l.opened.items;
}
