use Rattle.std.proofs.Common.{◌≡◌, ◌≤◌, ℕ, true, false, None, length}
use Rattle.std.specs.Ordering.{nat_cmp}
use Rattle.std.specs.BTreeMap as tree_map
use Rattle.std.specs.BTreeSet as tree_set
use Rattle.dwarf_source_frames.specs.SectionsViews.{sections_view}
use Rattle.dwarf_source_frames.specs.UnitAddresses.{place_by_ranges}
use Rattle.dwarf_source_frames.proofs.UnitAddressLemmas.{place_from}
use Rattle.dwarf_source_frames.proofs.debug_info.DebugInfo.assign_units.Given as goal

abbrev pub invariant-units : goal.invariant-units
invariant-units l = record {
  within : length l.rest ≤ length l.section;
  left : (a : ℕ) → tree_set.contains nat_cmp l.pending a ≡ true
      → place_from (sections_view l.self.sections) a (length l.section) l.rest
      ≡ place_by_ranges (sections_view l.self.sections) a;
  was_pending : (a : ℕ) → tree_set.contains nat_cmp l.pending a ≡ true → tree_set.contains nat_cmp l.fn.pending a ≡ true;
  blank : (a : ℕ) → tree_set.contains nat_cmp l.pending a ≡ true → tree_map.get nat_cmp l.places a ≡ None;
  found : (a : ℕ) → tree_set.contains nat_cmp l.fn.pending a ≡ true → tree_set.contains nat_cmp l.pending a ≡ false
      → tree_map.get nat_cmp l.places a ≡ place_by_ranges (sections_view l.self.sections) a;
  others : (a : ℕ) → tree_set.contains nat_cmp l.fn.pending a ≡ false → tree_map.get nat_cmp l.places a ≡ tree_map.get nat_cmp l.fn.places a;
}

abbrev pub decreases-units : goal.decreases-units
decreases-units l = length l.rest
