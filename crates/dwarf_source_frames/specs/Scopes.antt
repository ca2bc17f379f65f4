-- The function entries that contain an address (DWARF 5, sections 2.17, 3.3.1 and 3.3.8).
use Rattle.std.specs.Prelude.{ℕ, zero, suc, Bool, true, false, List, [], ◌∷◌, ◌≡◌, ◌<◌, ◌≤◌, slice_get}
use Rattle.std.specs.Prelude.{◌==◌, ◌||◌, if◌then◌else◌, Option, Some, None}
use Rattle.std.specs.Option.{option_map_or}
use Rattle.dwarf_ranges.specs.EntryRanges.{UnitRangesRecord, entry_ranges, left_after_entry}
use Rattle.dwarf_ranges.specs.Lists.{in_ranges}
use Rattle.dwarf_ranges.specs.declared.range.CodeRange.{CodeRange}
use Rattle.dwarf_entries.specs.Entries.{EntryRecord, PlacedRecord, entries_of}
use Rattle.dwarf_source_frames.specs.DebugSections.{DebugSectionsRecord}
use Rattle.dwarf_source_frames.specs.DebugUnits.{UnitRecord}
use Rattle.dwarf_source_frames.specs.UnitCode.{entries_of_lists, range_attributes, unit_ranges_of}

-- an entry: the number of entries around it, and the ranges of its code; an entry that is no function has no ranges
pub record ScopeRecord : Type 0 where
  pub depth : ℕ
  pub entry : EntryRecord
  pub ranges : List CodeRange

-- whether an entry is DW_TAG_subprogram, a function that is not inlined into the entry in which it is nested (section
-- 3.3.1)
abbrev pub is_subprogram : EntryRecord → Bool
is_subprogram entry = entry.tag == 0x2e

-- whether an entry is a function: DW_TAG_subprogram or DW_TAG_inlined_subroutine
abbrev pub is_function : EntryRecord → Bool
is_function entry = is_subprogram entry || (entry.tag == 0x1d)

-- the ranges of an entry of a unit; at most `left` entries of its range list count
unfoldable pub scope_ranges : UnitRangesRecord → ℕ → EntryRecord → List CodeRange
scope_ranges unit left entry = if is_function entry then entry_ranges unit left (range_attributes entry) else []

-- the number of entries that are left of `left` after the range list of that entry
unfoldable pub left_after_scope : UnitRangesRecord → ℕ → EntryRecord → ℕ
left_after_scope unit left entry =
    if is_function entry then left_after_entry unit left (range_attributes entry) else left

-- an entry at this depth with its ranges; at most `left` entries of its range list count
abbrev pub scope_of : UnitRangesRecord → ℕ → ℕ → EntryRecord → ScopeRecord
scope_of unit left depth entry = record { depth = depth; entry = entry; ranges = scope_ranges unit left entry }

-- entries with their ranges; of all their range lists together, only the first `left` entries count
unfoldable pub scopes_from : UnitRangesRecord → ℕ → List PlacedRecord → List ScopeRecord
scopes_from unit left [] = []
scopes_from unit left (p ∷ ps) =
    record { depth = p.depth; entry = p.entry; ranges = scope_ranges unit left p.entry }
    ∷ scopes_from unit (left_after_scope unit left p.entry) ps

-- the entries of a unit with their ranges
abbrev pub scopes_of : DebugSectionsRecord → UnitRecord → List ScopeRecord
scopes_of sections unit =
    scopes_from (unit_ranges_of sections unit) (entries_of_lists unit)
    (entries_of sections.debug_abbrev unit.header unit.bytes)

-- the depth of the entry at an index
abbrev pub depth_at : List ScopeRecord → ℕ → ℕ
depth_at scopes index = option_map_or (λ s. s.depth) (slice_get scopes index) 0

-- whether there is an entry at an index, and it contains the address
abbrev pub contains_at : ℕ → List ScopeRecord → ℕ → Bool
contains_at address scopes index = option_map_or (λ s. in_ranges address s.ranges) (slice_get scopes index) false

-- an entry is nested in another one: it comes later, and each entry after the outer one, up to this one, is deeper than
-- the outer one
pub record IsIn (scopes : List ScopeRecord) (outer index : ℕ) : Type 0 where
  pub later : outer < index
  pub deeper : (between : ℕ) → outer < between → between ≤ index → depth_at scopes outer < depth_at scopes between

-- the entry is nested in the outer one, if there is one
abbrev pub IsWithin : List ScopeRecord → Option ℕ → ℕ → Type 0
IsWithin scopes None index = Unit {0}
IsWithin scopes (Some outer) index = IsIn scopes outer index

-- the first entry that is nested in the outer one and contains the address
pub record IsFirst (address : ℕ) (scopes : List ScopeRecord) (outer : Option ℕ) (index : ℕ) : Type 0 where
  pub within : IsWithin scopes outer index
  pub contains : contains_at address scopes index ≡ true
  pub first : (before : ℕ) → before < index → IsWithin scopes outer before
      → contains_at address scopes before ≡ true → ⊥

-- the first entry that is nested in the outer one and contains the address, the first such entry in that one, and so
-- on, at most `room` of them
abbrev pub IsChainWithin : ℕ → ℕ → List ScopeRecord → Option ℕ → List EntryRecord → Type 0
IsChainWithin zero address scopes outer chain = chain ≡ []
IsChainWithin (suc room) address scopes outer [] =
    (index : ℕ) → IsWithin scopes outer index → contains_at address scopes index ≡ true → ⊥
IsChainWithin (suc room) address scopes outer (entry ∷ chain) =
    (index : ℕ) × (scope : ScopeRecord) × (slice_get scopes index ≡ Some scope) × (entry ≡ scope.entry)
    × IsFirst address scopes outer index × IsChainWithin room address scopes (Some index) chain

-- the entries that contain the address, the outermost first; at most 256 count
abbrev pub IsChain : ℕ → List ScopeRecord → List EntryRecord → Type 0
IsChain address scopes chain = IsChainWithin 256 address scopes None chain

-- of nested entries, the innermost first, those of one function and of the calls that are inlined into it: they end
-- with the first subprogram, whatever it is nested in (sections 3.3.1 and 3.3.8.2)
unfoldable pub calls_of : List EntryRecord → List EntryRecord
calls_of [] = []
calls_of (entry ∷ entries) = entry ∷ (if is_subprogram entry then [] else calls_of entries)
