-- The join is on the way to itself.
use Rattle.join_core.specs.Bound.{IsLeastAbove, IsTowards}

module _ {C : Type 0} (is_content : C → Type 0) (below : C → C → Type 0) where
  pub reached : (x y z : C) → IsLeastAbove is_content below x y z → IsTowards is_content below x y z
  reached x y z l = record { content = l.content; above_old = l.left; below_join = λ other m. l.least other m.content m.left m.right }
