-- The index of a content.
use Rattle.std.specs.Prelude.{◌≡◌, ℕ, ◌+◌, List, [], ◌∷◌, length, true}
use Rattle.std.specs.List.{AllByRecursion, sum_by}
use Rattle.std.specs.List.Sorted.{IsStrictlySortedBy}
use Rattle.std.specs.Ordering.{nat_cmp}
use Rattle.std.specs.Cmp.Lexicographic.{slice_cmp}
use Rattle.std.specs.FinSet as set
use Rattle.join_core.specs.Listing.{listing}
use Rattle.archive_core.specs.Content.{Operations}
use Rattle.archive_core.specs.Summary.{Entries}
use Rattle.index_format.specs.Entry.{placed_entry, IsPlacedEntry, length_in}

-- the entries of records that follow one another from an offset
abbrev pub placed_entries : ℕ → List (List ℕ) → List (List ℕ)
placed_entries offset [] = []
placed_entries offset (r ∷ rs) = placed_entry offset r ∷ placed_entries (offset + length r) rs

-- the index of a content: the entries of the records of its text, which follow the magic
unfoldable pub index : Operations → Entries
index o = set.from_list (placed_entries 8 (listing o))

-- entries of an index
abbrev pub AreIndexEntries : Entries → Type 0
AreIndexEntries s = (e : List ℕ) → set.contains s e ≡ true → IsPlacedEntry e

-- the sum of the lengths of the records in the entries
unfoldable pub lengths_of : Entries → ℕ
lengths_of s = sum_by length_in (listing s)

-- strictly ascending entries, as an index keeps them
pub record AreIndexed (entries : List (List ℕ)) : Type 0 where
  pub ascending : IsStrictlySortedBy (slice_cmp nat_cmp) entries
  pub are : AllByRecursion IsPlacedEntry entries
