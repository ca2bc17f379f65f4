-- The entries of a unit with their ranges, one after another.
use Rattle.std.proofs.Common.{◌≡◌, ◌≤◌, ℕ, ◌+◌, false, List, [], ◌∷◌, length, inl, inr, arith, refl}
use Rattle.std.proofs.lemmas.Bool.{cases_Bool}
use Rattle.dwarf_entries.specs.Entries.{EntryRecord, PlacedRecord}
use Rattle.dwarf_ranges.specs.EntryRanges.{UnitRangesRecord}
use Rattle.dwarf_source_frames.specs.Scopes.{calls_of, is_function, is_subprogram, left_after_scope, scope_of, scope_ranges, scopes_from}

pub scopes_none : (unit : UnitRangesRecord) (left : ℕ) → scopes_from unit left [] ≡ []
unfolding scopes_from
scopes_none unit left = refl

pub scopes_more : (unit : UnitRangesRecord) (left : ℕ) (p : PlacedRecord) (ps : List PlacedRecord)
    → scopes_from unit left (p ∷ ps) ≡ scope_of unit left p.depth p.entry ∷ scopes_from unit (left_after_scope unit left p.entry) ps
unfolding scopes_from
scopes_more unit left p ps = refl

-- an entry that is not of a function has no ranges, and takes no entry of a list
pub none_taken : (unit : UnitRangesRecord) (left : ℕ) (entry : EntryRecord) → is_function entry ≡ false → left ≡ left_after_scope unit left entry
unfolding left_after_scope
none_taken unit left entry e = rw e refl

pub no_ranges : (unit : UnitRangesRecord) (left : ℕ) (entry : EntryRecord) → is_function entry ≡ false → scope_ranges unit left entry ≡ []
unfolding scope_ranges
no_ranges unit left entry e = rw e refl

-- the calls of entries are as many as these at most
pub few_calls : (entries : List EntryRecord) → length (calls_of entries) ≤ length entries
unfolding calls_of
few_calls [] = omega arith
few_calls (entry ∷ entries) = elim (cases_Bool (is_subprogram entry)) [
  | inl t ↦ rw t (omega arith)
  | inr n ↦ rw n (omega (arith, few_calls entries))
]
