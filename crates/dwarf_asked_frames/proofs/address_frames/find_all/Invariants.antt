use Rattle.std.proofs.Common.{ℕ}
use Rattle.std.specs.BTreeMap as tree_map
use Rattle.dwarf_source_frames.specs.ByUnit.{addresses_under}
use Rattle.dwarf_source_frames.specs.FoundUnits.{AreOfUnit}
use Rattle.dwarf_asked_frames.specs.FoundFrames.{AreRight}
use Rattle.dwarf_source_frames.specs.SectionsViews.{sections_view}
use Rattle.dwarf_asked_frames.proofs.FoundLemmas.{AreDone}
use Rattle.dwarf_asked_frames.proofs.address_frames.find_all.Given as goal

abbrev pub invariant-units : goal.invariant-units
invariant-units l = record {
  right : AreRight (sections_view l.info.sections) l.found;
  units : (place : ℕ) → AreOfUnit (sections_view l.info.sections) place (addresses_under l.by_unit place);
  done : (place : ℕ) → AreDone (sections_view l.info.sections) l.found (addresses_under l.by_unit place) (addresses_under l.fn.by_unit place);
}

abbrev pub decreases-units : goal.decreases-units
decreases-units l = tree_map.btree_map_len l.by_unit
