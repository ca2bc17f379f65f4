use Rattle.std.proofs.Common.{◌≡◌, ◌∙◌, ◌+◌, ◌-◌, ℕ, List, [], ◌∷◌, true, false, Some, None, arith, ap, sym, subst, length, take, if◌then◌else◌}
use Rattle.std.proofs.lemmas.{Bool.cond-false, Bool.cond-true, Str.Pattern.ends_text}
use Rattle.std.specs.List.{ends_with}
use Rattle.std.specs.Str.{IsCharBoundary, Pattern.FindsTextSuffix}
use lib.Dec.{eqb}
use Rattle.cli_arguments.proofs.escapes.without_line_feed.Goals as goal

-- what a text that ends so begins with
before_end : (n s x : List ℕ) (k : ℕ) → FindsTextSuffix n s (Some k) → x ≡ take (length s - k) s → length x + k ≡ length s
    → x ≡ (if ends_with eqb s n then take (length s - length n) s else s)
before_end n s x k found is long =
    is ∙ ap (λ m. take (length s - m) s) found.0
    ∙ sym (cond-true (ends_with eqb s n) (take (length s - length n) s) s
    (sym (ends_text true n s (k, found, omega (arith, long), subst (λ m. IsCharBoundary s (length s - m)) (sym found.0) found.2))))

other_end : (n s : List ℕ) → FindsTextSuffix n s None → s ≡ (if ends_with eqb s n then take (length s - length n) s else s)
other_end n s lacks = sym (cond-false (ends_with eqb s n) (take (length s - length n) s) s (sym (ends_text false n s lacks)))

pub returns-in-Some : goal.returns-in-Some
returns-in-Some c =
    let found = c.in-Some.ensures.cases in
    before_end (10 ∷ []) c.args.text.now c.in-Some.line.now found.0 found.1 found.2 found.3

pub returns-in-None : goal.returns-in-None
returns-in-None c = other_end (10 ∷ []) c.args.text.now c.in-None.ensures.cases
