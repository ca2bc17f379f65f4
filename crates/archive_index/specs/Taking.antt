-- The state of an archive after operations that were applied one after another.
use Rattle.std.specs.Prelude.{◌≡◌, ℕ, List, Result, MatchResult}
use Rattle.archive_core.specs.Content.{Operations, IsTakenInPart, with_records, new_among}

-- Each operation was applied to the content; or the call failed, and some of them may have been applied.
abbrev pub Takes : {X E : Type 0} → Operations → Operations → List (List ℕ) → Result X E → Type 0
Takes old new records result =
    MatchResult result (λ _. new ≡ with_records old records) (λ _. IsTakenInPart old records new)

-- Each operation was applied to the content, and this number of them was new; or the call failed, and some of them may
-- have been applied.
abbrev pub TakesEach : {E : Type 0} → Operations → Operations → List (List ℕ) → Result ℕ E → Type 0
TakesEach old new records result =
    MatchResult result (λ count. (new ≡ with_records old records) × (count ≡ new_among old records))
    (λ _. IsTakenInPart old records new)
