-- What was made of the records of a file.
use Rattle.std.proofs.Common.{◌≡◌, ℕ, List, [], ◌∷◌, ◌++◌, sym, ap, ◌∙◌, subst}
use Rattle.std.specs.Prelude.{map, All}
use Rattle.archive_core.specs.declared.operations.Operation.{Operation}
use Rattle.archive_core.specs.Record.{IsOperation, record_bytes}
use Rattle.std.proofs.lemmas.List.{map-append}
use Rattle.std.proofs.lemmas.List.Elements.{All-push}

-- one operation more
pub listed_more : (xs grown : List Operation) (records : List (List ℕ)) (bytes : List ℕ) → (x : Operation)
    × (grown ≡ xs ++ x ∷ []) × IsOperation x × (record_bytes x ≡ bytes) → All IsOperation xs
    × (map record_bytes xs ≡ records)
    → All IsOperation grown × (map record_bytes grown ≡ records ++ bytes ∷ [])
listed_more xs grown records bytes more l =
    let x = more.0 in (
      subst (All IsOperation) (sym more.1) (All-push IsOperation xs x l.0 more.2),
      ap (map record_bytes) more.1 ∙ map-append record_bytes xs (x ∷ [])
          ∙ ap (λ (t : List ℕ). map record_bytes xs ++ t ∷ []) more.3
          ∙ ap (λ (rs : List (List ℕ)). rs ++ bytes ∷ []) l.1,
    )
