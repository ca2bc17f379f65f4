-- The records that are gathered at the offsets in an index.
use Rattle.std.specs.Prelude.{◌≡◌, ◌≢◌, ℕ, List, ◌++◌, length, Option, Some, None, IfSome, Result, Ok, Err}
use Rattle.std.specs.List.{AllZip}
use Rattle.index_format.specs.declared.fault.PlaceFault.{PlaceFault}
use Rattle.index_format.specs.declared.fault.PlaceFault.TheVariants.{Stale, Device, OutOfMemory}
use Rattle.index_format.specs.Places.{BlamesPlaced, IsNamedBy, IsStale, entries_under}

-- The result of reading at offsets of a device that keeps its bytes: a value with the first property, and no failure;
-- or a fault, which says whether the device failed and at which offset, and has the second property if the bytes are
-- known.
abbrev pub ReadsPlaces : {P T : Type 0} → (P → Option (List ℕ)) → (P → ℕ) → P → P → Result T PlaceFault
    → (T → Type 0) → (List ℕ → PlaceFault → Type 0) → (ℕ → Type 0) → Type 0
ReadsPlaces whole failures old new (Ok value) IsTrue IsRefused IsRead =
    IsTrue value × (whole new ≡ whole old) × (failures new ≡ failures old)
ReadsPlaces whole failures old new (Err fault) IsTrue IsRefused IsRead =
    IfSome (whole old) (λ text. IsRefused text fault) × (whole new ≡ whole old)
    × BlamesPlaced IsRead failures old new fault

-- Each entry with the prefix names one of these records, in their order, and they follow those that were gathered
-- before.
pub record AreGatheredUnder (whole : Option (List ℕ)) (prefix : List ℕ) (entries : List (List ℕ)) (old new : List (List ℕ))
    : Type 0 where
  pub records : List (List ℕ)
  pub named : IfSome whole (λ text. AllZip (IsNamedBy text) (entries_under prefix entries) records)
  pub behind : new ≡ old ++ records

-- why nothing is gathered for a prefix: an entry names no record of the text
abbrev pub IsEntryFault : List ℕ → List (List ℕ) → List ℕ → PlaceFault → Type 0
IsEntryFault prefix entries text (Stale None) = ⊥
IsEntryFault prefix entries text (Stale (Some k)) = IsStale prefix entries text k
IsEntryFault prefix entries text (Device offset) = Unit {0}
IsEntryFault prefix entries text OutOfMemory = Unit {0}

-- why the size of an archive is refused: it has another
abbrev pub IsSizeFault : ℕ → List ℕ → PlaceFault → Type 0
IsSizeFault size text (Stale None) = length text ≢ size
IsSizeFault size text (Stale (Some k)) = ⊥
IsSizeFault size text (Device offset) = Unit {0}
IsSizeFault size text OutOfMemory = ⊥
