-- Numbers that ascend.
use Rattle.std.specs.Prelude.{ℕ, List, ◌<◌, ◌≤◌, length, slice_index, slice_index_or}

-- numbers ascend
abbrev pub AreRising : List ℕ → Type 0
AreRising all = (i j d : ℕ) → i < j → j < length all → slice_index_or all i d < slice_index_or all j d

-- `count` of the starts, which ascend, are below an address
pub record IsCountBelow (starts : List ℕ) (address count : ℕ) : Type 0 where
  pub within : count ≤ length starts
  pub below : (i : ℕ) → i < count → slice_index starts i < address
  pub above : (i : ℕ) → count ≤ i → i < length starts → address ≤ slice_index starts i
