-- Steps to the units of addresses: definitions of inner functions. No contract of a public function uses them.
use Rattle.std.specs.Prelude.{ℕ, List, ◌≡◌, ◌<◌, length, slice_index, true, Some, None}
use Rattle.std.specs.Ordering.{nat_cmp}
use Rattle.std.specs.BTreeMap as tree_map
use Rattle.std.specs.BTreeSet as tree_set
use Rattle.dwarf_ranges.specs.Aranges.{is_named}
use Rattle.dwarf_ranges.specs.declared.arange.Arange.{Arange}
use Rattle.dwarf_source_frames.specs.DebugSections.{DebugSectionsRecord}
use Rattle.dwarf_source_frames.specs.UnitAddresses.{place_by_tuple}

-- the set is that of the offsets of the units that sets of __debug_aranges name
pub record AreNamedUnits (section : List ℕ) (named : tree_set.BTreeSet ℕ) : Type 0 where
  pub each : (offset : ℕ) → tree_set.contains nat_cmp named offset ≡ is_named section offset

-- each address has the offset of the unit that its tuple names, or is pending if its tuple names none
pub record ArePlacesByTuples (sections : DebugSectionsRecord) (tuples : tree_map.BTreeMap ℕ Arange) (addresses : List ℕ)
    (places : tree_map.BTreeMap ℕ ℕ) (pending : tree_set.BTreeSet ℕ) : Type 0 where
  pub place_of : (i : ℕ) → i < length addresses →
      tree_map.get nat_cmp places (slice_index addresses i)
      ≡ place_by_tuple sections (tree_map.get nat_cmp tuples (slice_index addresses i))
  pub waits : (i : ℕ) → i < length addresses →
      place_by_tuple sections (tree_map.get nat_cmp tuples (slice_index addresses i)) ≡ None
      → tree_set.contains nat_cmp pending (slice_index addresses i) ≡ true
  pub places_only : (a place : ℕ) → tree_map.get nat_cmp places a ≡ Some place
      → place_by_tuple sections (tree_map.get nat_cmp tuples a) ≡ Some place
  pub pending_only : (a : ℕ) → tree_set.contains nat_cmp pending a ≡ true
      → place_by_tuple sections (tree_map.get nat_cmp tuples a) ≡ None
