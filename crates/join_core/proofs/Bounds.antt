-- Least bounds under any order.
use Rattle.join_core.specs.Bound.{IsLeastAbove}

module _ {C : Type 0} (is_content : C → Type 0) (below : C → C → Type 0) (transitive : (x y z : C) → below x y → below y z → below x z) where
  -- the join of the parts is below what is above the parts of either grouping
  pub regrouped : (x y z xy yz left right : C) → IsLeastAbove is_content below x y xy
      → IsLeastAbove is_content below xy z left → IsLeastAbove is_content below y z yz
      → IsLeastAbove is_content below x yz right → below left right
  regrouped x y z xy yz left right a b c d =
      b.least right d.content
      (a.least right d.content d.left (transitive y yz right c.left d.right))
      (transitive z yz right c.right d.right)

  -- and the other way round
  pub regrouped_back : (x y z xy yz left right : C) → IsLeastAbove is_content below x y xy
      → IsLeastAbove is_content below xy z left → IsLeastAbove is_content below y z yz
      → IsLeastAbove is_content below x yz right → below right left
  regrouped_back x y z xy yz left right a b c d =
      d.least left b.content
      (transitive x xy left a.left b.left)
      (c.least left b.content (transitive y xy left a.right b.left) b.right)
