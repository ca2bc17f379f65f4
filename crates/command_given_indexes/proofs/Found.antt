-- The rows that a search by indexes asks for.
use Rattle.std.proofs.Common.{◌≡◌, ℕ, List, [], ◌∷◌, length, refl}
use Rattle.command_common.specs.Inputs.{Reader}
use Rattle.command_given_indexes.specs.Answered.{rows_by, rows_joined}

-- of several archives those of the slices that their indexes name
pub found_in_several : {I P : Type 0} (indexes : List (Reader I)) (archives : List (Reader P)) (uuid : List ℕ)
    → (length archives ≡ 1 → ⊥) → rows_by indexes archives uuid ≡ rows_joined indexes archives uuid
found_in_several (i ∷ []) (a ∷ []) uuid several = absurd (several refl)
found_in_several indexes archives uuid several = refl
