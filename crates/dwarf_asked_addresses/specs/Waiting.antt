-- Waiting indexes: each index has a next one, and none from it on, below the next one, waits. These are the terms of
-- `Waiting`, and of inner functions that use it.
use Rattle.std.specs.Prelude.{ℕ, List, ◌≡◌, ◌≢◌, ◌≤◌, ◌<◌, ◌+◌, length, slice_index}

-- an index waits if it is its own next one
abbrev pub Waits : List ℕ → ℕ → Type 0
Waits next index = slice_index next index ≡ index

-- each index has a next one at or above it, and those from it on, below the next one, do not wait; the last index waits
pub record AreNext (next : List ℕ) : Type 0 where
  pub within : (i : ℕ) → i < length next → slice_index next i < length next
  pub rises : (i : ℕ) → i < length next → i ≤ slice_index next i
  pub passed : (i j : ℕ) → i < length next → i ≤ j → j < slice_index next i → slice_index next j ≢ j
  pub last : (i : ℕ) → i + 1 ≡ length next → slice_index next i ≡ i

-- the first waiting index, from an index on
pub record IsFirstWaiting (next : List ℕ) (index found : ℕ) : Type 0 where
  pub from : index ≤ found
  pub within : found < length next
  pub waits : Waits next found
  pub first : (j : ℕ) → index ≤ j → j < found → slice_index next j ≢ j

-- the same indexes wait
pub record WaitTheSame (old new : List ℕ) : Type 0 where
  pub count : length new ≡ length old
  pub still : (j : ℕ) → j < length old → Waits old j → Waits new j
  pub only : (j : ℕ) → j < length old → Waits new j → Waits old j

-- the same indexes wait, but for one
pub record WaitWithout (index : ℕ) (old new : List ℕ) : Type 0 where
  pub count : length new ≡ length old
  pub no_longer : slice_index new index ≢ index
  pub still : (j : ℕ) → j < length old → j ≢ index → Waits old j → Waits new j
  pub only : (j : ℕ) → j < length old → Waits new j → Waits old j
