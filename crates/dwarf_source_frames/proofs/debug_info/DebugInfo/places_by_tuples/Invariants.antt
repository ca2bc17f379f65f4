use Rattle.std.proofs.Common.{◌≡◌, ◌<◌, ℕ, true, Some, None, get_or}
use Rattle.std.specs.Ordering.{nat_cmp}
use Rattle.std.specs.BTreeMap as tree_map
use Rattle.std.specs.BTreeSet as tree_set
use Rattle.dwarf_source_frames.specs.SectionsViews.{sections_view}
use Rattle.dwarf_source_frames.specs.UnitAddresses.{place_by_tuple}
use Rattle.dwarf_source_frames.proofs.debug_info.DebugInfo.places_by_tuples.Given as goal

abbrev pub invariant-loop-address : goal.invariant-loop-address
invariant-loop-address l = record {
  place_of : (i : ℕ) → i < l.address-index → tree_map.get nat_cmp l.places (get_or l.addresses i 0)
      ≡ place_by_tuple (sections_view l.self.sections) (tree_map.get nat_cmp l.tuples (get_or l.addresses i 0));
  waits : (i : ℕ) → i < l.address-index → place_by_tuple (sections_view l.self.sections)
      (tree_map.get nat_cmp l.tuples (get_or l.addresses i 0)) ≡ None
      → tree_set.contains nat_cmp l.pending (get_or l.addresses i 0) ≡ true;
  places_only : (a place : ℕ) → tree_map.get nat_cmp l.places a ≡ Some place
      → place_by_tuple (sections_view l.self.sections) (tree_map.get nat_cmp l.tuples a) ≡ Some place;
  pending_only : (a : ℕ) → tree_set.contains nat_cmp l.pending a ≡ true
      → place_by_tuple (sections_view l.self.sections) (tree_map.get nat_cmp l.tuples a) ≡ None;
}
