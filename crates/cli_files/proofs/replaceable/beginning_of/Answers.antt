use Rattle.std.proofs.Common.{◌≡◌, ℕ, List, [], ◌∷◌, ◌++◌, ap, arith, length, refl}
use Rattle.std.proofs.lemmas.Grind.{common_steps}
use Rattle.cli_files.proofs.replaceable.beginning_of.Goals as goal

no_front : (a b : List ℕ) → a ++ b ≡ [] → length a ≡ 0
no_front [] b none = refl
no_front (x ∷ a) b none = let long = ap length none in grind (arith, long)

pub returns-clause-none : goal.returns-clause-none
returns-clause-none g c = λ none.
    let size = c.if-size-eq0.false in
    let kept = c.read_exact.auto.buf in
    let count = c.min-count.ensures in
    let gone = no_front c.read_exact.new.buf _ none in grind (arith, common_steps, size, kept, count, gone)
