-- The functions of the chain of an address, one after another.
use Rattle.std.proofs.Common.{◌≡◌, ℕ, zero, suc, ◌+◌, true, false, nat_le, List, [], ◌∷◌, length, Option, Some, refl}
use Rattle.dwarf_ranges.specs.Lists.{in_ranges}
use Rattle.dwarf_source_frames.specs.Scopes.{ScopeRecord}
use Rattle.dwarf_functions.specs.UnitFunctions.{FunctionRecord, count_within, functions_after, functions_from, is_past}

-- the function of a scope
abbrev pub function_at : ℕ → ScopeRecord → List ScopeRecord → FunctionRecord
function_at before scope rest = record { entry = scope.entry; ranges = scope.ranges; end = before + 1 + count_within scope.depth rest }

pub from_with : (before : ℕ) (scope : ScopeRecord) (rest : List ScopeRecord) → nat_le 1 (length scope.ranges) ≡ true
    → functions_from before (scope ∷ rest) ≡ function_at before scope rest ∷ functions_from (before + 1) rest
unfolding functions_from
from_with before scope rest has = rw has refl

pub from_bare : (before : ℕ) (scope : ScopeRecord) (rest : List ScopeRecord) → nat_le 1 (length scope.ranges) ≡ false
    → functions_from before (scope ∷ rest) ≡ functions_from before rest
unfolding functions_from
from_bare before scope rest bare = rw bare refl

pub after_zero : (a : ℕ) (end : Option ℕ) (index : ℕ) (fs : List FunctionRecord) → functions_after zero a end index fs ≡ []
unfolding functions_after
after_zero a end index [] = refl
after_zero a end index (f ∷ fs) = refl

pub after_none : (room a : ℕ) (end : Option ℕ) (index : ℕ) → functions_after room a end index [] ≡ []
unfolding functions_after
after_none room a end index = refl

pub after_past : (room a : ℕ) (end : Option ℕ) (index : ℕ) (f : FunctionRecord) (fs : List FunctionRecord)
    → is_past end index ≡ true → functions_after (suc room) a end index (f ∷ fs) ≡ []
unfolding functions_after
after_past room a end index f fs past = rw past refl

pub after_here : (room a : ℕ) (end : Option ℕ) (index : ℕ) (f : FunctionRecord) (fs : List FunctionRecord)
    → is_past end index ≡ false → in_ranges a f.ranges ≡ true
    → functions_after (suc room) a end index (f ∷ fs) ≡ f ∷ functions_after room a (Some f.end) (index + 1) fs
unfolding functions_after
after_here room a end index f fs past has = rw (past, has) refl

pub after_skip : (room a : ℕ) (end : Option ℕ) (index : ℕ) (f : FunctionRecord) (fs : List FunctionRecord)
    → is_past end index ≡ false → in_ranges a f.ranges ≡ false
    → functions_after (suc room) a end index (f ∷ fs) ≡ functions_after (suc room) a end (index + 1) fs
unfolding functions_after
after_skip room a end index f fs past not = rw (past, not) refl
