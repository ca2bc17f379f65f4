-- Functions in which further ones may be nested: definitions of inner functions. No contract of a public function uses
-- them.
use Rattle.std.specs.Prelude.{ℕ, List, [], ◌∷◌, ◌++◌, ◌≡◌, ◌==◌, ◌+◌, ◌-◌, ◌<◌, ◌≤◌, length, slice_get}
use Rattle.std.specs.Prelude.{IfSome, if◌then◌else◌}
use Rattle.std.specs.List.{All, list_any}
use Rattle.std.specs.Option.{option_map}
use Rattle.dwarf_source_frames.specs.DebugSections.{DebugSectionsRecord}
use Rattle.dwarf_source_frames.specs.DebugUnits.{UnitRecord}
use Rattle.dwarf_source_frames.specs.Scopes.{ScopeRecord}
use Rattle.dwarf_functions.specs.UnitFunctions.{IsFunction}
use Rattle.dwarf_functions.specs.declared.functions.Function.{Function}
use Rattle.dwarf_functions.specs.declared.functions.Open.{Open}

-- the indexes of open functions are below `count`
abbrev pub AreAmong : ℕ → List Open → Type 0
AreAmong count opened = All (λ o. o.index < count) opened

-- the function at an index, after some open functions were closed; a closed one ends at `end`
abbrev pub closed_at : ℕ → List Open → ℕ → Function → Function
closed_at end closed index f = if list_any (λ o. o.index == index) closed then record f { end = end } else f

-- the innermost open functions, those that are as deep as an entry, are closed: they end after the functions so far
pub record Closes (depth : ℕ) (opened left : List Open) (before after : List Function) : Type 0 where
  pub closed : List Open
  pub open_are : opened ≡ left ++ closed
  pub deep : All (λ o. depth ≤ o.depth) closed
  pub shallow : IfSome (slice_get left (length left - 1)) (λ o. o.depth < depth)
  pub count : length after ≡ length before
  pub each : (i : ℕ) → slice_get after i ≡ option_map (closed_at (length before) closed i) (slice_get before i)

-- if the entry has ranges, one more function, which is open
pub record Adds (sections : DebugSectionsRecord) (unit : UnitRecord) (scope : ScopeRecord) (ranges_end : ℕ)
    (opened next : List Open) (before after : List Function) : Type 0 where
  pub without : scope.ranges ≡ [] → (after ≡ before) × (next ≡ opened)
  pub with_ranges : 0 < length scope.ranges →
      (f : Function) × (after ≡ before ++ f ∷ []) × (f.ranges_end ≡ ranges_end)
      × IsFunction sections unit
      (record { entry = scope.entry; ranges = scope.ranges; end = length before + 1 }) f
      × (next ≡ opened ++ record { depth = scope.depth; index = length before } ∷ [])

-- the entry is processed: the functions in which it is not nested are closed, and it is added
pub record Takes (sections : DebugSectionsRecord) (unit : UnitRecord) (scope : ScopeRecord) (ranges_end : ℕ)
    (opened next : List Open) (before after : List Function) : Type 0 where
  pub left : List Open
  pub closed : List Function
  pub closes : Closes scope.depth opened left before closed
  pub adds : Adds sections unit scope ranges_end left next closed after
