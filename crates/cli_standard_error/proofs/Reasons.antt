-- What stands after the front of a text.
use Rattle.std.proofs.Common.{◌≡◌, ◌∙◌, ℕ, List, true, false, Some, None, ap, sym, subst, length, drop, if◌then◌else◌}
use Rattle.std.proofs.lemmas.{Bool.cond-false, Bool.cond-true, Str.Pattern.starts_text}
use Rattle.std.specs.List.{starts_with}
use Rattle.std.specs.Str.{IsCharBoundary, Pattern.FindsTextPrefix}
use lib.Dec.{eqb}

-- what a text that begins so goes on with
pub behind_front : (n s x : List ℕ) (k : ℕ) → FindsTextPrefix n s (Some k) → x ≡ drop k s
    → x ≡ (if starts_with eqb s n then drop (length n) s else s)
behind_front n s x k found is =
    is ∙ ap (λ m. drop m s) found.0
    ∙ sym (cond-true (starts_with eqb s n) (drop (length n) s) s
    (sym (starts_text true n s (k, found, subst (λ m. IsCharBoundary s m) (sym found.0) found.2))))

pub other_front : (n s : List ℕ) → FindsTextPrefix n s None → s ≡ (if starts_with eqb s n then drop (length n) s else s)
other_front n s lacks = sym (cond-false (starts_with eqb s n) (drop (length n) s) s (sym (starts_text false n s lacks)))
