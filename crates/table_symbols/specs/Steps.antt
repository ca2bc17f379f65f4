-- Facts that hold for each image.
use Rattle.std.specs.Prelude.{◌<◌, ℕ, List, slice_index}

-- each element of an image is a byte
abbrev pub AreBytes : List ℕ → Type 0
AreBytes image = (i : ℕ) → slice_index image i < 256
