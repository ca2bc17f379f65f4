-- New numbers for numbers in the order of their first use. No contract of a public function uses these definitions.
use Rattle.std.specs.Prelude.{ℕ, zero, suc, List, [], ◌∷◌, ◌≡◌, ◌<◌, ◌^◌, length, nat_eq, slice_index}
use Rattle.table_source_frames.specs.Numbering.{number_in}
use Rattle.table_source_frames_build.specs.Numbering.{IsNumber}

-- each number, from 1 on, has this new number; 0 if it is not used
pub record AreGiven (given order : List ℕ) : Type 0 where
  pub each : (index : ℕ) → index < length given → slice_index given index ≡ number_in nat_eq order (suc index)
  pub within : (place : ℕ) → place < length order → IsNumber (length given) (slice_index order place)
  pub few : length order < 2 ^ 32

-- a number, if it is not 0
abbrev pub some_number : ℕ → List ℕ
some_number zero = []
some_number (suc index) = suc index ∷ []
