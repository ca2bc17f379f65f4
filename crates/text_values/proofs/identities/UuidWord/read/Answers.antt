use Rattle.std.proofs.Common.{◌≡◌, ◌∙◌, ◌↔◌, refl, List, Option, Some, None, Result, Ok, Err, IfOk, IsOk, ℕ}
use Rattle.std.specs.Result.{result_ok}
use Rattle.text_values.proofs.identities.UuidWord.read.Goals as goal

-- a result that is accepted exactly where there is a value has it
kept : {E : Type 0} (r : Result (List ℕ) E) (o : Option (List ℕ)) → (IsOk r ↔ ((u : List ℕ) × (o ≡ Some u)))
    → IfOk r (λ u. Some u ≡ o) → result_ok r ≡ o
kept (Ok u) o found is = is
kept (Err e) (Some u) found is = cc (found.1 (u, refl))
kept (Err e) None found is = refl

pub returns : goal.returns
returns c = c.ok.ensures.value ∙ kept c.parse_str.result _ c.parse_str.ensures.ok c.parse_str.ensures.bytes
