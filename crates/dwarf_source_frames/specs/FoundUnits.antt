-- The units that are found for addresses.
use Rattle.std.specs.Prelude.{ℕ, List, ◌≡◌, ◌<◌, length, slice_index, Some}
use Rattle.dwarf_source_frames.specs.DebugSections.{DebugSectionsRecord}
use Rattle.dwarf_source_frames.specs.DebugUnits.{UnitRecord}
use Rattle.dwarf_source_frames.specs.UnitAddresses.{IsUnitOf, read_unit}

-- the unit of each of these addresses is at this offset
pub record AreOfUnit (sections : DebugSectionsRecord) (place : ℕ) (addresses : List ℕ) : Type 0 where
  pub each : (i : ℕ) → i < length addresses → IsUnitOf sections (slice_index addresses i) (Some place)

-- this is the unit of the address
pub record IsInUnit (sections : DebugSectionsRecord) (unit : UnitRecord) (address : ℕ) : Type 0 where
  pub place : ℕ
  pub is_unit : IsUnitOf sections address (Some place)
  pub read : Some unit ≡ read_unit sections place
