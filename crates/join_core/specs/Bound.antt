-- Least upper bounds: the result of a join, and the contents at which a join may stop half way.

-- the join of x and y, their least upper bound: a content above both, and below each content that is above both (INRIA
-- RR-7506, state-based objects)
pub record IsLeastAbove {C : Type 0} (is_content : C → Type 0) (below : C → C → Type 0) (x y joined : C) : Type 0 where
  pub content : is_content joined
  pub left : below x joined
  pub right : below y joined
  pub least : (other : C) → is_content other → below x other → below y other → below joined other

-- a content between x and the join of x and y: above x, and below their join, which contents have (laws.exists)
pub record IsTowards {C : Type 0} (is_content : C → Type 0) (below : C → C → Type 0) (x y mid : C) : Type 0 where
  pub content : is_content mid
  pub above_old : below x mid
  pub below_join : (joined : C) → IsLeastAbove is_content below x y joined → below mid joined
