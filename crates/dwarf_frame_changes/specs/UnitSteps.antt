-- The units of the addresses of an image, from one boundary to the next.
use Rattle.std.specs.Prelude.{ℕ, List, ◌↔◌, Option, Contains}
use Rattle.dwarf_source_frames.specs.DebugSections.{DebugSectionsRecord}
use Rattle.dwarf_source_frames.specs.UnitAddresses.{AreUnitsOf}
use Rattle.dwarf_asked_addresses.specs.Rising.{AreRising}
use Rattle.dwarf_frame_changes.specs.Turns.{boundaries}

-- all boundaries, ascending, each with the offset of its unit, or none
pub record AreUnitSteps (sections : DebugSectionsRecord) (starts : List ℕ) (places : List (Option ℕ)) : Type 0 where
  pub rising : AreRising starts
  pub all : (a : ℕ) → Contains starts a ↔ Contains (boundaries sections) a
  pub units : AreUnitsOf sections starts places
