-- Numbers from 1 on.
use Rattle.std.specs.Prelude.{ℕ, ◌<◌, ◌≤◌}

-- the number of one of `count` elements
pub record IsNumber (count number : ℕ) : Type 0 where
  pub some : 0 < number
  pub within : number ≤ count
