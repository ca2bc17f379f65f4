-- The first row of a table that fits.
use Rattle.std.proofs.Common.{◌≡◌, ℕ, Bool, true, false, Bor, List, [], ◌∷◌, find, map, nat_eq, option_map, refl}
use Rattle.std.specs.List.{starts_with}
use Rattle.cli_standard_error.specs.FileKinds.{kind_among}
use Rattle.cli_standard_error.specs.declared.file_kinds.FileKind.{FileKind}

abbrev Row : Type 0
Row = Bor (List ℕ) × FileKind

-- it is the same of references and of what they lead to
abbrev IsAlike : List ℕ → List Row → Type 0
IsAlike bytes rows =
    option_map (λ (row : Row). row.1) (find (λ (row : Row). starts_with nat_eq bytes row.0.now) rows)
    ≡ kind_among bytes (map (λ (row : Row). (row.0.now, row.1)) rows)

alike_more : (bytes : List ℕ) (row : Row) (rows : List Row) (fits : Bool)
    → starts_with nat_eq bytes row.0.now ≡ fits → IsAlike bytes rows → IsAlike bytes (row ∷ rows)
alike_more bytes row rows true is rest = rw is refl
alike_more bytes row rows false is rest = rw is rest

pub alike : (bytes : List ℕ) (rows : List Row) → IsAlike bytes rows
alike bytes [] = refl
alike bytes (row ∷ rows) = alike_more bytes row rows (starts_with nat_eq bytes row.0.now) refl (alike bytes rows)
