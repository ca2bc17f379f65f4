-- The ranges of functions that contain asked addresses: definitions of inner functions. No contract of a public
-- function uses them.
use Rattle.std.specs.Prelude.{ℕ, Bool, true, List, ◌&&◌, filter, map, nat_le, nat_lt, Option, Some, None}
use Rattle.std.specs.List.{list_any}
use Rattle.dwarf_ranges.specs.declared.range.CodeRange.{CodeRange}
use Rattle.dwarf_source_frames.specs.Scopes.{ScopeRecord}

-- whether a range contains one of the asked addresses; true if all addresses are asked
abbrev pub has_asked : Option (List ℕ) → CodeRange → Bool
has_asked None range = true
has_asked (Some asked) range = list_any (λ a. nat_le range.low a && nat_lt a range.high) asked

-- the ranges that contain an asked address
abbrev pub asked_ranges : Option (List ℕ) → List CodeRange → List CodeRange
asked_ranges asked ranges = filter (has_asked asked) ranges

-- an entry with those of its ranges that contain an asked address
abbrev pub asked_scope : Option (List ℕ) → ScopeRecord → ScopeRecord
asked_scope asked scope =
    record { depth = scope.depth; entry = scope.entry; ranges = asked_ranges asked scope.ranges }

-- entries with those of their ranges that contain an asked address
abbrev pub asked_scopes : Option (List ℕ) → List ScopeRecord → List ScopeRecord
asked_scopes asked scopes = map (asked_scope asked) scopes
