-- Some of the entries of an index, with their numbers.
use Rattle.std.specs.Prelude.{◌≡◌, ◌==◌, ◌<◌, ◌⊎◌, ℕ, Bool, true, List, [], ◌∷◌, All, filter, length, map, if◌then◌else◌}
use Rattle.std.specs.List.{enumerate_from, range_with_len, zip}
use Rattle.std.specs.List.Sorted.{IsStrictlySortedBy}
use Rattle.std.specs.Ordering.{nat_cmp}
use Rattle.index_format.specs.Entry.{AreOrderedEntries, has_tag}
use Rattle.index_format.specs.declared.entry.IndexEntry.{IndexEntry}

-- of entries with these numbers, the one with this number; no bytes if there is none
abbrev pub entry_with : List ℕ → List (List ℕ) → ℕ → List ℕ
entry_with [] entries k = []
entry_with (n ∷ ns) [] k = []
entry_with (n ∷ ns) (e ∷ es) k = if n == k then e else entry_with ns es k

-- so many entries, of which only these have bytes, those with these numbers
abbrev pub spread : ℕ → List ℕ → List (List ℕ) → List (List ℕ)
spread count numbers entries = map (entry_with numbers entries) (range_with_len 0 count)

-- an entry that was read has a tag, and one that was not has no bytes
abbrev pub HasTagIfRead : List ℕ → Type 0
HasTagIfRead e = (e ≡ []) ⊎ (has_tag e ≡ true)

-- these numbers ascend, and each is below this one
pub record AreNumbers (next : ℕ) (numbers : List ℕ) : Type 0 where
  pub ascending : IsStrictlySortedBy nat_cmp numbers
  pub below : All (λ n. n < next) numbers

-- These entries ascend, and they have numbers among so many.
pub record ArePart (count : ℕ) (numbers : List ℕ) (entries : List IndexEntry) : Type 0 where
  pub ordered : AreOrderedEntries entries
  pub many : length numbers ≡ length entries
  pub numbered : AreNumbers count numbers

-- These are, in their order and with their numbers, the entries that pass.
pub record AreNumbered (passes : List ℕ → Bool) (all : List (List ℕ)) (numbers : List ℕ) (entries : List (List ℕ))
    : Type 0 where
  pub many : length numbers ≡ length entries
  pub are : zip numbers entries ≡ filter (λ numbered. passes numbered.1) (enumerate_from 0 all)
