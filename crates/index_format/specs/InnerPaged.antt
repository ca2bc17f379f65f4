-- Entries that are read from pages: the terms of the inner functions. No contract of a public function has them.
use Rattle.std.specs.Prelude.{◌≡◌, ◌<◌, ◌≤◌, ◌+◌, ◌*◌, ◌^◌, ◌⊎◌, ℕ, Bool, true, false, List, [], ◌∷◌, Ok, map, length, slice_index_or, take}
use Rattle.std.specs.List.{AllByRecursion, concat, list_any}
use Rattle.std.specs.List.Sorted.{IsStrictlySortedBy}
use Rattle.std.specs.Ordering.{nat_cmp}
use Rattle.std.specs.Cmp.Lexicographic.{slice_cmp}
use Rattle.std.specs.declared.cmp.Ordering.TheVariants.{Less, Greater}
use Rattle.index_format.specs.Paged.{begins_as, kept}
use Rattle.table_checked_pages.specs.Pages.{AreStored, Claim, MayBeStored}
use Rattle.index_format.specs.Entry.{has_tag}
use Rattle.index_format.specs.Fault.{IsOfMachine}
use Rattle.index_format.specs.Runs.{is_tagged}
use Rattle.index_format.specs.Spread.{entry_with}
use Rattle.index_format.specs.Text.{check_entry, retired_in}
use Rattle.index_format.specs.declared.index_fault.IndexFault.{IndexFault}
use Rattle.index_format.specs.declared.index_fault.IndexFaultKind.TheVariants.{BadDigest}
use Rattle.index_format.specs.declared.paged_entry.PagedEntry.{PagedEntry}

-- the numbers of entries that were read, and their bytes
abbrev pub numbers_of : List PagedEntry → List ℕ
numbers_of read = map (λ e. e.number) read

abbrev pub bytes_of : List PagedEntry → List (List ℕ)
bytes_of read = map (λ e. e.bytes) read

-- an entry with this tag, whose key begins with one of these UUIDs
abbrev pub is_tagged_one : ℕ → List (List ℕ) → List ℕ → Bool
is_tagged_one tag uuids e = list_any (λ uuid. is_tagged tag uuid e) uuids

-- of these entries, those that pass were read, and no other
abbrev pub AreRead : (List ℕ → Bool) → List (List ℕ) → List PagedEntry → Type 0
AreRead passes entries read =
    (k : ℕ) → entry_with (numbers_of read) (bytes_of read) k ≡ kept passes (slice_index_or entries k [])

-- Of these entries, those from one number on up to another may have this tag and one of these UUIDs: those before them
-- begin lower, and those after them higher. None from the first number on passes.
pub record AreSought (passes : List ℕ → Bool) (tag : ℕ) (uuids : List (List ℕ)) (entries : List (List ℕ)) (from to : ℕ)
    : Type 0 where
  pub low : (k j : ℕ) → k < from → j < length uuids
      → begins_as tag (slice_index_or uuids j []) (slice_index_or entries k []) ≡ Less
  pub high : (k j : ℕ) → to ≤ k → k < length entries → j < length uuids
      → begins_as tag (slice_index_or uuids j []) (slice_index_or entries k []) ≡ Greater
  pub none : (k : ℕ) → from ≤ k → k < length entries → passes (slice_index_or entries k []) ≡ false

-- these entries ascend, each has a tag, and so many of them are retirements
pub record HaveTags (retired : ℕ) (entries : List (List ℕ)) : Type 0 where
  pub ascending : IsStrictlySortedBy (slice_cmp nat_cmp) entries
  pub tags : AllByRecursion (λ e. has_tag e ≡ true) entries
  pub retired_is : retired ≡ retired_in entries

-- entries that pass their checks, each above the one before it without its claim too, and the first above this one
abbrev pub PassInPart : ℕ → List ℕ → List (List ℕ) → Type 0
PassInPart end last [] = Unit {0}
PassInPart end last (e ∷ es) =
    (length e ≡ 122) × (check_entry end last e ≡ Ok tt) × (slice_cmp nat_cmp (take 74 last) (take 74 e) ≡ Less)
    × PassInPart end e es

-- so many entries may be stored where the claim says, of which so many are retirements, and they pass their checks
pub record MayHold (text : List ℕ) (claim : Claim) (count retired : ℕ) (entries : List (List ℕ)) : Type 0 where
  pub many : length entries ≡ count
  pub retired_is : retired ≡ retired_in entries
  pub stored : MayBeStored text claim (concat entries)
  pub pass : PassInPart claim.offset [] entries

-- Why a part is not read where the claim says: a fault outside the text; no entries are stored there; or an entry that
-- was read fails a check.
abbrev pub IsUnreadPart : List ℕ → Claim → ℕ → ℕ → ℕ → IndexFault → Type 0
IsUnreadPart text claim count retired first fault =
    (IsOfMachine fault.kind × (fault.offset ≡ claim.offset))
    ⊎ ((fault.kind ≡ BadDigest) × (fault.offset ≡ claim.offset)
    × (length text < 2 ^ 64 → (all : List ℕ) → AreStored text claim all → ⊥))
    ⊎ ((number : ℕ) × (fault.offset ≡ first + 122 * number)
    × ((entries : List (List ℕ)) → MayHold text claim count retired entries → ⊥))
