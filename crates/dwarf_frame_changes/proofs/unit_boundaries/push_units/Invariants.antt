use Rattle.std.proofs.Common.{◌≡◌, ◌≤◌, ◌++◌, length, flat_map}
use Rattle.dwarf_encoding.specs.Sequences.{placed, placed_from}
use Rattle.dwarf_encoding.specs.Units.{unit_at}
use Rattle.dwarf_frame_changes.specs.Turns.{ends_of}
use Rattle.dwarf_source_frames.specs.SectionsViews.{sections_view}
use Rattle.dwarf_source_frames.specs.UnitAddresses.{own_ranges}
use Rattle.dwarf_frame_changes.proofs.unit_boundaries.push_units.Given as goal

abbrev pub invariant-units : goal.invariant-units
invariant-units l = record {
  within : length l.rest ≤ length l.section;
  so_far : l.starts.items ++ flat_map (λ u. ends_of (own_ranges (sections_view l.info.sections) u.0 u.1)) (placed_from unit_at (length l.section) l.rest)
      ≡ l.fn.starts.items ++ flat_map (λ u. ends_of (own_ranges (sections_view l.info.sections) u.0 u.1)) (placed unit_at l.section);
}

abbrev pub decreases-units : goal.decreases-units
decreases-units l = length l.rest
