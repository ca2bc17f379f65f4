-- The entries with one tag and a prefix: they are adjacent, since entries ascend.
use Rattle.std.specs.Prelude.{◌≡◌, ◌≤◌, ◌==◌, ◌&&◌, ℕ, Bool, true, false, List, length, slice_index}
use Rattle.std.specs.List.{AllWithin}
use Rattle.archive_core.specs.Part.{is_under}

-- an entry has this tag, and its key begins with these bytes
abbrev pub is_tagged : ℕ → List ℕ → List ℕ → Bool
is_tagged tag front e = (slice_index e 0 == tag) && is_under front e

-- the entries that pass are those from the first number up to the second
pub record IsRun (passes : List ℕ → Bool) (entries : List (List ℕ)) (start stop : ℕ) : Type 0 where
  pub ordered : start ≤ stop
  pub within : stop ≤ length entries
  pub before : AllWithin (λ e. passes e ≡ false) entries 0 start
  pub inside : AllWithin (λ e. passes e ≡ true) entries start stop
  pub behind : AllWithin (λ e. passes e ≡ false) entries stop (length entries)
