-- The texts of files: of a content in version 2 and in version 1, of operations, and of a summary.
use Rattle.std.specs.Prelude.{◌≡◌, ℕ, true, List, [], ◌∷◌, ◌++◌, ◌↔◌, length, map, filter, not, All, Contains, ◌⊎◌}
use Rattle.std.specs.Int.{w64, to_be_bytes}
use Rattle.std.specs.List.{concat}
use Rattle.std.specs.List.Sorted.{IsStrictlySortedBy}
use Rattle.std.specs.Ordering.{nat_cmp}
use Rattle.std.specs.Cmp.Lexicographic.{slice_cmp}
use Rattle.std.specs.FinSet as set
use Rattle.join_core.specs.Listing.{listing}
use Rattle.archive_core.specs.declared.operations.Operation.{Operation}
use Rattle.archive_core.specs.Record.{IsOperation, IsRecord, record_bytes}
use Rattle.archive_core.specs.Content.{Operations, IsMade, is_covered, content_of}
use Rattle.archive_core.specs.Summary.{Entries, entry}
use Rattle.archive_records.specs.declared.format.Format.{Format}
use Rattle.archive_records.specs.declared.format.Format.TheVariants.{Archive, OldArchive, Operations as Operations_file}
use Rattle.archive_records.specs.declared.format.Format.TheVariants.{Summary as Summary_file}
use Rattle.archive_records.specs.Kind.{magic, old_magic, operations_magic, summary_magic, magic_of, IsItem, may_follow}

-- the end record with this number of records
unfoldable pub end_record : ℕ → List ℕ
end_record count = 3 ∷ to_be_bytes w64 count

-- the bytes after this number of records: an end record, or nothing
abbrev pub ending : Format → ℕ → List ℕ
ending Operations_file count = []
ending _ count = end_record count

-- the text of these records
abbrev pub text_of : Format → List (List ℕ) → List ℕ
text_of file records = magic_of file ++ (concat records ++ ending file (length records))

-- the text that is written for a content: its records strictly ascending in byte order, between the magic and the end
-- record
pub record IsWritten (o : Operations) (text : List ℕ) : Type 0 where
  pub records : List (List ℕ)
  pub ascending : IsStrictlySortedBy (slice_cmp nat_cmp) records
  pub members : (r : List ℕ) → Contains records r ↔ (set.contains o r ≡ true)
  pub whole : text ≡ text_of Archive records

-- the same text, as a function of the content
unfoldable pub written : Operations → List ℕ
written o = magic ++ (concat (listing o) ++ end_record (set.len o))

-- the text of a set of operations in version 1: the same form, with the old magic. It may contain covered slices.
unfoldable pub old_written : Operations → List ℕ
old_written p = old_magic ++ (concat (listing p) ++ end_record (set.len p))

-- these are operations, each by its record
abbrev pub AreOperations : Operations → Type 0
AreOperations p = (r : List ℕ) → set.contains p r ≡ true → IsRecord r

-- The text has version 1, and this is the content of its operations.
pub record IsOldText (o : Operations) (text : List ℕ) : Type 0 where
  pub operations : Operations
  pub are : AreOperations operations
  pub whole : text ≡ old_written operations
  pub makes : o ≡ content_of operations

-- the text is an archive's with this content: the written one, or one of version 1
abbrev pub IsArchiveOf : Operations → List ℕ → Type 0
IsArchiveOf o text = (text ≡ written o) ⊎ IsOldText o text

-- the records whose entries are not in this set
abbrev pub missing : Entries → List (List ℕ) → List (List ℕ)
missing s records = filter (λ r. not (set.contains s (entry r))) records

-- the text of a summary: its entries strictly ascending in byte order, between the magic and the end record
pub record IsSummaryText (s : Entries) (text : List ℕ) : Type 0 where
  pub entries : List (List ℕ)
  pub ascending : IsStrictlySortedBy (slice_cmp nat_cmp) entries
  pub members : (e : List ℕ) → Contains entries e ↔ (set.contains s e ≡ true)
  pub whole : text ≡ text_of Summary_file entries

-- the same text, as a function of the summary
unfoldable pub summary_text : Entries → List ℕ
summary_text s = summary_magic ++ (concat (listing s) ++ end_record (set.len s))

-- the text of operations: the magic and their records, in any order and with repeats
pub record IsOperationsText (text : List ℕ) (operations : List Operation) : Type 0 where
  pub are : All IsOperation operations
  pub whole : text ≡ operations_magic ++ concat (map record_bytes operations)

-- items of the file; each may follow the one before it, and the first may follow low
abbrev pub InOrder : Format → List ℕ → List (List ℕ) → Type 0
InOrder file low [] = Unit {0}
InOrder file low (x ∷ xs) = IsItem file x × (may_follow file low x ≡ true) × InOrder file x xs

-- In an archive of version 2 no retirement among the records covers an admission among them. In version 1 one may.
abbrev pub AreApart : Format → List (List ℕ) → Type 0
AreApart Archive records = IsMade (set.from_list records)
AreApart _ records = Unit {0}

-- the records that no retirement among them covers
unfoldable pub kept : List (List ℕ) → List (List ℕ)
kept records = filter (λ r. not (is_covered (set.from_list records) r)) records

-- the records that are not dropped: an archive of version 1 drops the covered ones
abbrev pub taken_of : Format → List (List ℕ) → List (List ℕ)
taken_of OldArchive records = kept records
taken_of _ records = records

-- the last record, or low if there is none; the empty list is below every record
abbrev pub last_of : List ℕ → List (List ℕ) → List ℕ
last_of low [] = low
last_of low (x ∷ xs) = last_of x xs
