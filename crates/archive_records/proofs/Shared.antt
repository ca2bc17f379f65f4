-- Retirements that readers share: they count as each one's own.
use Rattle.std.proofs.Common.{◌≡◌, ℕ, true, false, ◌||◌, List, ◌∷◌, ◌++◌, get_or, Option, None, Some, ap, ◌∙◌, arith}
use Rattle.std.specs.FinSet as set
use Rattle.std.proofs.lemmas.Bool.{or_right}
use Rattle.archive_core.specs.Content.{covering, is_covered}
use Rattle.archive_core.proofs.Retired.{in_both, second_more}
use Rattle.archive_records.specs.Reader.{set_of, Keeps, with_shared}
use Rattle.archive_records.proofs.FoundOut.{uncovered_retirement}

-- those of two lists cover what those of either do
covered_both : (shared own : List (List ℕ)) (x : List ℕ) → is_covered (set_of (shared ++ own)) x ≡ (is_covered (set_of shared) x || is_covered (set_of own) x)
covered_both shared own x = let both = in_both shared own (covering x) in grind arith

pub covered_shared : (shared own : List (List ℕ)) (x : List ℕ) → is_covered (set_of own) x ≡ false
    → is_covered (set_of (shared ++ own)) x ≡ is_covered (set_of shared) x
covered_shared shared own x none = let both = covered_both shared own x in grind arith

pub covered_own : (shared : Option (List (List ℕ))) (own : List (List ℕ)) (x : List ℕ) → is_covered (set_of own) x
    ≡ true → is_covered (set_of (with_shared shared own)) x ≡ true
covered_own None own x covers = covers
covered_own (Some shared) own x covers = covered_both shared own x ∙ or_right (is_covered (set_of shared) x) (is_covered (set_of own) x) covers

-- one more of its own is one more
one_more : (shared : Option (List (List ℕ))) (old new : List (List ℕ)) (x : List ℕ) → set_of new
    ≡ set.insert (set_of old) x → set_of (with_shared shared new) ≡ set.insert (set_of (with_shared shared old)) x
one_more None old new x more = more
one_more (Some shared) old new x more = second_more shared old new x more

pub keeps_retirement : (shared : Option (List (List ℕ))) (old new : List (List ℕ)) (x : List ℕ) → get_or x 0 0 ≡ 1
    → set_of new ≡ set.insert (set_of old) x → Keeps (with_shared shared old) (with_shared shared new) false x
keeps_retirement shared old new x tag more = record {
  tells = uncovered_retirement (with_shared shared old) x tag;
  alike = λ r. ap (λ s. set.contains s (1 ∷ r)) (one_more shared old new x more);
}
