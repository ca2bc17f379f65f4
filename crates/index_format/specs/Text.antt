-- The text of an index: the magic, the stored tables, the stored entries and the end record.
use Rattle.std.specs.Prelude.{◌≡◌, ◌<◌, ℕ, ◌+◌, ◌-◌, ◌*◌, ◌^◌, true, not, List, [], ◌∷◌, ◌++◌, length, map, take, drop}
use Rattle.std.specs.Prelude.{if◌then◌else◌, Result, Ok, Err}
use Rattle.std.specs.Int.{w64, to_be_bytes, from_be_bytes}
use Rattle.std.specs.List.{concat, count_by, sum_by}
use Rattle.std.specs.List.Sorted.{IsPermutation}
use Rattle.std.specs.Ordering.{nat_cmp, is_lt}
use Rattle.std.specs.Cmp.Lexicographic.{slice_cmp}
use Rattle.std.specs.FinSet as set
use Rattle.table_checked_pages.specs.Pages.{Claim, digests_size, root_of, stored}
use Rattle.archive_core.specs.Content.{is_admission}
use Rattle.archive_core.specs.Summary.{Entries}
use Rattle.index_format.specs.Entry.{claim_in, has_claim, has_kind, has_length, has_tag, length_in, offset_in}
use Rattle.index_format.specs.Entry.{stored_size}
use Rattle.index_format.specs.declared.index_fault.IndexFaultKind.{IndexFaultKind}
use Rattle.index_format.specs.declared.index_fault.IndexFaultKind.TheVariants.{BadTag, BadKind, BadLength, NotAscending}
use Rattle.index_format.specs.declared.index_fault.IndexFaultKind.TheVariants.{BadTable}

-- MSYMIDX2
abbrev pub index_magic : List ℕ
index_magic = 0x4d ∷ 0x53 ∷ 0x59 ∷ 0x4d ∷ 0x49 ∷ 0x44 ∷ 0x58 ∷ 0x32 ∷ []

-- MSYMIDX1: the magic of indexes of releases before 2.4
abbrev pub earlier_magic : List ℕ
earlier_magic = 0x4d ∷ 0x53 ∷ 0x59 ∷ 0x4d ∷ 0x49 ∷ 0x44 ∷ 0x58 ∷ 0x31 ∷ []

-- the checks of an entry after this last one, if the tables end at this offset
unfoldable pub check_entry : ℕ → List ℕ → List ℕ → Result (Unit {0}) IndexFaultKind
check_entry end last e = if not (has_tag e) then Err BadTag
    else if not (has_kind e) then Err BadKind
    else if not (has_length e) then Err BadLength
    else if not (is_lt (slice_cmp nat_cmp last e)) then Err NotAscending
    else if not (has_claim end e) then Err BadTable
    else Ok tt

-- entries that pass their checks, each after the one before it, and the first after this one
abbrev pub PassChecks : ℕ → List ℕ → List (List ℕ) → Type 0
PassChecks end last [] = Unit {0}
PassChecks end last (e ∷ es) = (length e ≡ 122) × (check_entry end last e ≡ Ok tt) × PassChecks end e es

-- Each record begins where the one before it ends, the first at this offset of the archive; so does each table, the
-- first at that offset of the index, and the last ends at the third offset.
abbrev pub FollowOn : ℕ → ℕ → ℕ → List (List ℕ) → Type 0
FollowOn offset at end [] = at ≡ end
FollowOn offset at end (e ∷ es) =
    (offset_in e ≡ offset) × (is_admission e ≡ true → (claim_in e).offset ≡ at)
    × FollowOn (offset + length_in e) (at + stored_size (claim_in e)) end es

-- In some order the records of the entries follow one another after the magic of the archive, and their tables fill the
-- index from its magic up to this offset.
pub record AreLaid (end : ℕ) (entries : List (List ℕ)) : Type 0 where
  pub order : List (List ℕ)
  pub permuted : IsPermutation entries order
  pub follow : FollowOn 8 8 end order

-- the number of retirements among these entries
abbrev pub retired_in : List (List ℕ) → ℕ
retired_in entries = count_by (λ e. not (is_admission e)) entries

-- the length of the archive of these entries: the magic, their records and the end record
abbrev pub archive_length : List (List ℕ) → ℕ
archive_length entries = 17 + sum_by length_in entries

-- the end record: the numbers of the entries and of the retirements among them, the length of the archive, and the root
-- of the stored entries
unfoldable pub end_of : List (List ℕ) → List ℕ
end_of entries = 3 ∷ (to_be_bytes w64 (length entries) ++ (to_be_bytes w64 (retired_in entries)
    ++ (to_be_bytes w64 (archive_length entries) ++ root_of (concat entries))))

-- the text of these tables and entries; the entries are stored as the bytes of a table are
abbrev pub index_text : List ℕ → List (List ℕ) → List ℕ
index_text tables entries = index_magic ++ (tables ++ (stored (concat entries) ++ end_of entries))

-- The text is an index with these entries.
pub record IsIndexText (text : List ℕ) (entries : List (List ℕ)) : Type 0 where
  pub tables : List ℕ
  pub whole : text ≡ index_text tables entries
  pub few : length entries < 2 ^ 64
  pub short : archive_length entries < 2 ^ 64
  pub pass : PassChecks (8 + length tables) [] entries
  pub laid : AreLaid (8 + length tables) entries

-- the number of entries in the end record of a text
abbrev pub count_in : List ℕ → ℕ
count_in text = from_be_bytes w64 (take 8 (drop (length text - 56) text))

-- the number of retirements in it
abbrev pub retirements_in : List ℕ → ℕ
retirements_in text = from_be_bytes w64 (take 8 (drop (length text - 48) text))

-- the length of the archive in it
abbrev pub archive_length_in : List ℕ → ℕ
archive_length_in text = from_be_bytes w64 (take 8 (drop (length text - 40) text))

-- the root in it
abbrev pub root_in : List ℕ → List ℕ
root_in text = drop (length text - 32) text

-- the offset of the first entry
abbrev pub first_in : List ℕ → ℕ
first_in text = length text - 57 - 122 * count_in text

-- the offset of the stored entries, where the tables end
abbrev pub start_in : List ℕ → ℕ
start_in text = first_in text - digests_size (122 * count_in text)

-- the bytes of the entries
abbrev pub entries_in : List ℕ → List ℕ
entries_in text = take (122 * count_in text) (drop (first_in text) text)

-- the place at which the entries are stored
abbrev pub entries_claim : List ℕ → Claim
entries_claim text = record { offset = start_in text; size = 122 * count_in text; root = root_in text }

-- The end record of a text has the numbers of these entries: of the retirements, and of the bytes of the archive.
pub record HasNumbers (text : List ℕ) (entries : List (List ℕ)) : Type 0 where
  pub retired_is : retirements_in text ≡ retired_in entries
  pub length_is : archive_length_in text ≡ archive_length entries

-- the entries without their claims, in their order
abbrev pub placed_in : List (List ℕ) → List (List ℕ)
placed_in entries = map (take 74) entries

-- the same as a set
abbrev pub placed_of : List (List ℕ) → Entries
placed_of entries = set.from_list (map (take 74) entries)
