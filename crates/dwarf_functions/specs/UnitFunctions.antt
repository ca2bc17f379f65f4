-- The functions of a unit that have ranges.
use Rattle.std.specs.Prelude.{ℕ, zero, suc, Bool, false, List, [], ◌∷◌, ◌≡◌, ◌+◌, length, flat_map, take, nat_le}
use Rattle.std.specs.Prelude.{slice_get, if◌then◌else◌, Option, Some, None}
use Rattle.std.specs.Option.{option_map}
use Rattle.dwarf_ranges.specs.Lists.{in_ranges}
use Rattle.dwarf_ranges.specs.declared.range.CodeRange.{CodeRange}
use Rattle.dwarf_entries.specs.Entries.{EntryRecord}
use Rattle.dwarf_source_frames.specs.DebugSections.{DebugSectionsRecord}
use Rattle.dwarf_source_frames.specs.DebugUnits.{UnitRecord}
use Rattle.dwarf_source_frames.specs.Frames.{location_of_call}
use Rattle.dwarf_source_frames.specs.Names.{IsName}
use Rattle.dwarf_source_frames.specs.Scopes.{ScopeRecord, is_subprogram}
use Rattle.dwarf_functions.specs.declared.functions.Function.{Function}

-- a function: its entry, its ranges, and the number of functions up to the last that is nested in it
pub record FunctionRecord : Type 0 where
  pub entry : EntryRecord
  pub ranges : List CodeRange
  pub end : ℕ

-- the number of scopes with ranges, up to the first scope that is not deeper than a given depth
abbrev pub count_within : ℕ → List ScopeRecord → ℕ
count_within depth [] = 0
count_within depth (scope ∷ scopes) =
    if nat_le scope.depth depth then 0
    else if nat_le 1 (length scope.ranges) then suc (count_within depth scopes)
    else count_within depth scopes

-- the functions among scopes, if `before` functions precede them
unfoldable pub functions_from : ℕ → List ScopeRecord → List FunctionRecord
functions_from before [] = []
functions_from before (scope ∷ scopes) =
    if nat_le 1 (length scope.ranges)
    then record {
      entry = scope.entry;
      ranges = scope.ranges;
      end = before + 1 + count_within scope.depth scopes;
    } ∷ functions_from (before + 1) scopes
    else functions_from before scopes

-- whether a function is no longer nested in another one, if there is one
abbrev pub is_past : Option ℕ → ℕ → Bool
is_past None index = false
is_past (Some end) index = nat_le end index

-- the functions of the chain of an address among the functions from an index on, at most `room` of them; `end` is the
-- end of the open function before them, if there is one
unfoldable pub functions_after : ℕ → ℕ → Option ℕ → ℕ → List FunctionRecord → List FunctionRecord
functions_after room a end index [] = []
functions_after zero a end index (f ∷ fs) = []
functions_after (suc room) a end index (f ∷ fs) =
    if is_past end index then []
    else if in_ranges a f.ranges then f ∷ functions_after room a (Some f.end) (index + 1) fs
    else functions_after (suc room) a end (index + 1) fs

-- a function as it is kept: its name and call, whether it is a subprogram, the index at which its nested functions end,
-- and the end of its ranges
pub record IsFunction (sections : DebugSectionsRecord) (unit : UnitRecord) (of : FunctionRecord) (function : Function)
    : Type 0 where
  pub name : IsName sections (record { unit = unit; entry = of.entry }) (option_map (λ n. n.now) function.name)
  pub call : function.call ≡ location_of_call of.entry
  pub is_subprogram : function.is_subprogram ≡ is_subprogram of.entry
  pub end : function.end ≡ of.end

-- the functions of a unit's entries with their ranges, one after another
pub record AreFunctions (sections : DebugSectionsRecord) (unit : UnitRecord) (scopes : List ScopeRecord)
    (functions : List Function) (ranges : List CodeRange) : Type 0 where
  pub count : length functions ≡ length (functions_from 0 scopes)
  pub ranges_are : ranges ≡ flat_map (λ f. f.ranges) (functions_from 0 scopes)
  pub each : (i : ℕ) (of : FunctionRecord) (f : Function) → slice_get (functions_from 0 scopes) i ≡ Some of
      → slice_get functions i ≡ Some f → IsFunction sections unit of f
  pub ends : (i : ℕ) (f : Function) → slice_get functions i ≡ Some f
      → f.ranges_end ≡ length (flat_map (λ g. g.ranges) (take (i + 1) (functions_from 0 scopes)))
