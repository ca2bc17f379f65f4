use Rattle.std.proofs.Common.{ℕ, Some, None, ◌↔◌, Contains}
use Rattle.dwarf_source_frames.specs.ByUnit.{IsPlacedWithin, addresses_under}
use Rattle.dwarf_source_frames.proofs.unit_lists.by_unit.Given as goal

abbrev pub invariant-loop-i : goal.invariant-loop-i
invariant-loop-i l = record {
  without : (a : ℕ) → Contains l.without.items a ↔ IsPlacedWithin l.i l.addresses l.places a None;
  under : (place a : ℕ) → Contains (addresses_under l.by_unit place) a ↔ IsPlacedWithin l.i l.addresses l.places a (Some place);
}
