use Rattle.std.proofs.Common.{◌≡◌, Bool, true, Option, Some, None, MatchOption, refl}
use Rattle.table_checked_pages.proofs.ReadLemmas.{read_as}
use Rattle.index_lookup.proofs.lines.frames_if.Goals as goal

-- what was found, if it was wanted
found_if : {T : Type 0} (found : Option T) (IsNone : Type 0) (IsTrue : T → Type 0) (wanted : Bool)
    → MatchOption found IsNone IsTrue → MatchOption found IsNone (λ value. wanted ≡ true → IsTrue value)
found_if None IsNone IsTrue wanted told = told
found_if (Some value) IsNone IsTrue wanted told = λ _. told

pub returns-then-lines-clause-read : goal.returns-then-lines-clause-read
returns-then-lines-clause-read g c =
    read_as (λ text known found told opened. found_if found _ _ c.args.lines (told opened))
    (λ text known absent. absent) c.frames_by_table.ensures

pub returns-clause-read : goal.returns-clause-read
returns-clause-read g c = record { says = λ text known opened wanted. absurd (cc (wanted, c.if-lines.false)); keeps = refl; counts = refl }
