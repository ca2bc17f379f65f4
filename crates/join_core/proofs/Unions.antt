-- What the members of a union have, and the union with nothing.
use Rattle.std.proofs.Common.{◌≡◌, Bool, true, ◌||◌, sym, ap, ◌∙◌, arith}
use Rattle.std.specs.declared.cmp.Ordering.{Ordering}
use Rattle.std.specs.Cmp.{IsTotalOrder}
use Rattle.std.specs.FinSet.{FinSet, contains, union, IsAntisymmetric, contains-union, same_set, contains-empty, empty}
use Rattle.std.proofs.Math.Bool.{or-false}

module _ {K : Type 0} {R : K → K → Ordering} (o : IsTotalOrder R) where
  either_has : (P : Type 0) (a b : Bool) → (a ≡ true → P) → (b ≡ true → P) → (a || b) ≡ true → P
  either_has P a b f g h = grind arith

  -- what each member of two sets has, each of their union has
  pub union_members : (P : K → Type 0) → (s t : FinSet R) → ((q : K) → contains s q ≡ true → P q)
      → ((q : K) → contains t q ≡ true → P q) → (q : K) → contains (union s t) q ≡ true → P q
  union_members P s t a b q h = either_has (P q) (contains s q) (contains t q) (a q) (b q) (sym (contains-union o s t q) ∙ h)

  -- the union with nothing changes nothing
  pub union_empty : IsAntisymmetric R → (s : FinSet R) → union s empty ≡ s
  union_empty same s = same_set o same _ _ (λ q. contains-union o s empty q ∙ ap (λ b. contains s q || b) (contains-empty R q) ∙ or-false (contains s q))
