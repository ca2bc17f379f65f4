-- The frames at each address, stored at the addresses at which they may change.
use Rattle.std.specs.Prelude.{ℕ, List, [], ◌∷◌, nat_lt, if◌then◌else◌}

-- the value at an address by steps: that of the last start that is not above it, and `before` if there is none
unfoldable pub at_step : {A : Type 0} → A → List ℕ → List A → ℕ → A
at_step before [] values address = before
at_step before (start ∷ starts) [] address = before
at_step before (start ∷ starts) (value ∷ values) address =
    if nat_lt address start then before else at_step value starts values address
