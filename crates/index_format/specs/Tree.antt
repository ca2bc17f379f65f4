-- The entries that a text may have, as far as SHA-256 tells, and those of them that a question reads.
use Rattle.std.specs.Prelude.{◌≡◌, ℕ, ◌+◌, ◌*◌, ◌⊎◌, Bool, List, [], length}
use Rattle.std.specs.List.{concat, list_any}
use Rattle.std.specs.List.Sorted.{IsStrictlySortedBy}
use Rattle.std.specs.Ordering.{nat_cmp}
use Rattle.std.specs.Cmp.Lexicographic.{slice_cmp}
use Rattle.table_checked_pages.specs.Pages.{MayBeStored}
use Rattle.archive_core.specs.Part.{is_under}
use Rattle.index_format.specs.Paged.{only}
use Rattle.index_format.specs.Text.{HasNumbers, IsIndexText, PassChecks, count_in, entries_claim, first_in, placed_in}
use Rattle.index_format.specs.Text.{start_in}
use Rattle.index_format.specs.declared.index_fault.IndexFault.{IndexFault}
use Rattle.index_format.specs.declared.index_fault.IndexFaultKind.TheVariants.{BadDigest}

-- As far as SHA-256 tells, the text is the index with these entries. Of an index this supposes nothing.
pub record MayHaveEntries (text : List ℕ) (entries : List (List ℕ)) : Type 0 where
  pub count_is : count_in text ≡ length entries
  pub numbers : HasNumbers text entries
  pub stored : MayBeStored text (entries_claim text) (concat entries)
  pub pass : PassChecks (start_in text) [] entries
  pub apart : IsStrictlySortedBy (slice_cmp nat_cmp) (placed_in entries)

-- an entry whose key begins with one of these UUIDs
abbrev pub is_under_one : List (List ℕ) → List ℕ → Bool
is_under_one uuids e = list_any (λ uuid. is_under uuid e) uuids

-- these entries of the text were read: all under these UUIDs
abbrev pub AreReadUnder : List (List ℕ) → List ℕ → List (List ℕ) → Type 0
AreReadUnder uuids text some =
    (entries : List (List ℕ)) → MayHaveEntries text entries → some ≡ only (is_under_one uuids) entries

-- A page of the entries, or of their digests, is not stored; or an entry that was read fails a check.
abbrev pub FailsInRuns : List ℕ → IndexFault → Type 0
FailsInRuns text fault =
    ((fault.kind ≡ BadDigest) × (fault.offset ≡ start_in text)
    × ((entries : List (List ℕ)) → IsIndexText text entries → ⊥))
    ⊎ ((number : ℕ) × (fault.offset ≡ first_in text + 122 * number)
    × ((entries : List (List ℕ)) → MayHaveEntries text entries → ⊥))
