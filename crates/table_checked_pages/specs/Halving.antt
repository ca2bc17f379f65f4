-- The boundary between the rows that are below the sought one and those that are not.
use Rattle.std.specs.Prelude.{◌<◌, ◌≤◌, ◌-◌, ℕ}

-- An index from `from` to `to`: the row before it is below the sought one, if there is one from `from` on, and its own
-- row is not, if it is before `to`.
pub record IsEdge (is_below : ℕ → Type 0) (from to place : ℕ) : Type 0 where
  pub least : from ≤ place
  pub most : from ≤ to → place ≤ to
  pub before : from < place → is_below (place - 1)
  pub at : place < to → is_below place → ⊥
