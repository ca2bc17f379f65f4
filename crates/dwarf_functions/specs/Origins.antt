-- Functions with the names of entries that other entries refer to: definitions of inner functions. No contract of a
-- public function uses them.
use Rattle.std.specs.Prelude.{ℕ, List, ◌≡◌, slice_get, MatchOption, Option, None, Some}
use Rattle.dwarf_source_frames.specs.DebugSections.{DebugSectionsRecord}
use Rattle.dwarf_source_frames.specs.DebugUnits.{UnitEntryRecord, IsEntryAt}
use Rattle.dwarf_source_frames.specs.Names.{IsName, IsNameWithin}
use Rattle.dwarf_functions.specs.FunctionNames.{AreNumbered, HasName}
use Rattle.dwarf_functions.specs.declared.functions.Function.{Function}
use Rattle.dwarf_functions.specs.declared.origins.Origin.{Origin}
use Rattle.dwarf_functions.specs.declared.origins.Origins.{Origins}

-- the name of the entry at an offset, from at most `count` entries: itself and those that it refers to, which have at
-- most `room` bytes
abbrev pub IsNameAtWithin : ℕ → ℕ → DebugSectionsRecord → ℕ → Option (List ℕ) → Type 0
IsNameAtWithin count room sections place name =
    (origin : Option (UnitEntryRecord × ℕ)) × IsEntryAt room sections place origin
    × MatchOption origin (name ≡ None) (λ o. IsNameWithin count o.1 sections o.0 None name)

-- the name of the entry at an offset; with the entry that refers to it, at most 16 entries count
unfoldable pub IsNameAt : DebugSectionsRecord → ℕ → Option (List ℕ) → Type 0
IsNameAt sections place name = IsNameAtWithin 15 16384 sections place name

-- an entry has the name of the entry at an offset
pub record IsNamedAt (e : UnitEntryRecord) (place : ℕ) : Type 0 where
  pub there : (sections : DebugSectionsRecord) (name : Option (List ℕ)) → IsName sections e name
      → IsNameAt sections place name
  pub here : (sections : DebugSectionsRecord) (name : Option (List ℕ)) → IsNameAt sections place name
      → IsName sections e name

-- an offset and the function with its name are kept
abbrev pub IsKept : Origins → Origin → Type 0
IsKept origins o = (slot : ℕ) × (slice_get origins.slots.items slot ≡ Some (Some o))

-- the function that is kept for an offset has the name of the entry there
pub record HasNameAt (sections : DebugSectionsRecord) (functions : List Function) (o : Origin) : Type 0 where
  pub name : Option (List ℕ)
  pub at : IsNameAt sections o.place name
  pub has : HasName functions o.function name

-- the names of functions are numbered, and the kept functions have the names of the entries at their offsets
pub record AreNamed (sections : DebugSectionsRecord) (functions : List Function) (origins : Origins) : Type 0 where
  pub numbered : AreNumbered functions
  pub each : (o : Origin) → IsKept origins o → HasNameAt sections functions o
