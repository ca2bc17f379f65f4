-- How a search ends, by its rows.
use Rattle.std.proofs.Common.{◌≡◌, List, [], ◌∷◌, map, refl}
use Rattle.command_common.specs.Found.{found_status}

-- it ends the same, whatever is seen of each row
pub found_map : {T U : Type 0} (view : T → U) (rows : List T) → found_status rows ≡ found_status (map view rows)
found_map view [] = refl
found_map view (row ∷ rows) = refl
