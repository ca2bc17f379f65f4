-- The formats of files: the magic of each, its records, their order, and its end.
use Rattle.std.specs.Prelude.{ℕ, Bool, true, List, [], ◌∷◌, ◌==◌, if◌then◌else◌, slice_index, Option, Some, None}
use Rattle.std.specs.declared.cmp.Ordering.{Ordering}
use Rattle.std.specs.Ordering.{is_lt, nat_cmp}
use Rattle.std.specs.Cmp.Lexicographic.{slice_cmp}
use Rattle.archive_core.specs.Record.{IsRecord}
use Rattle.archive_records.specs.Entry.{IsEntry}
use Rattle.archive_records.specs.declared.format.Format.{Format}
use Rattle.archive_records.specs.declared.format.Format.TheVariants.{Archive, OldArchive, Operations, Summary}
use Rattle.archive_records.specs.declared.kind.TextKind.{TextKind}
use Rattle.archive_records.specs.declared.kind.TextKind.TheVariants.{Archive as Archive_text}
use Rattle.archive_records.specs.declared.kind.TextKind.TheVariants.{Operations as Operations_text}
use Rattle.archive_records.specs.declared.kind.TextKind.TheVariants.{Summary as Summary_text}

-- MSYMARC2
abbrev pub magic : List ℕ
magic = 0x4d ∷ 0x53 ∷ 0x59 ∷ 0x4d ∷ 0x41 ∷ 0x52 ∷ 0x43 ∷ 0x32 ∷ []

-- MSYMARC1, of archives of version 1
abbrev pub old_magic : List ℕ
old_magic = 0x4d ∷ 0x53 ∷ 0x59 ∷ 0x4d ∷ 0x41 ∷ 0x52 ∷ 0x43 ∷ 0x31 ∷ []

-- MSYMOPS1
abbrev pub operations_magic : List ℕ
operations_magic = 0x4d ∷ 0x53 ∷ 0x59 ∷ 0x4d ∷ 0x4f ∷ 0x50 ∷ 0x53 ∷ 0x31 ∷ []

-- MSYMSUM1
abbrev pub summary_magic : List ℕ
summary_magic = 0x4d ∷ 0x53 ∷ 0x59 ∷ 0x4d ∷ 0x53 ∷ 0x55 ∷ 0x4d ∷ 0x31 ∷ []

abbrev pub magic_of : Format → List ℕ
magic_of Archive = magic
magic_of OldArchive = old_magic
magic_of Operations = operations_magic
magic_of Summary = summary_magic

-- the length of an admission's head; an entry is only a head
abbrev pub admission_length : Format → ℕ
admission_length Summary = 57
admission_length _ = 33

-- the length of an end record; an operations file has none
abbrev pub end_length : Format → Option ℕ
end_length Operations = None
end_length _ = Some 9

-- whether a record may follow one that compares with it by this order: the records of an archive and the entries of a
-- summary ascend, operations have any order
unfoldable pub allows : Format → Ordering → Bool
allows Operations order = true
allows _ order = is_lt order

-- whether the second record may follow the first
unfoldable pub may_follow : Format → List ℕ → List ℕ → Bool
may_follow file a b = allows file (slice_cmp nat_cmp a b)

-- the kind of a file of this format
abbrev pub kind_of : Format → TextKind
kind_of Archive = Archive_text
kind_of OldArchive = Archive_text
kind_of Operations = Operations_text
kind_of Summary = Summary_text

-- the items between the magic and the end of such a file: records of operations, or entries
abbrev pub IsItemOf : TextKind → List ℕ → Type 0
IsItemOf Summary_text item = IsEntry item
IsItemOf _ item = IsRecord item

-- the same for a file of this format
abbrev pub IsItem : Format → List ℕ → Type 0
IsItem file item = IsItemOf (kind_of file) item

-- the format by which a text that should be an archive's is read: the eighth byte is its version; any other byte than
-- that of version 1 means version 2
unfoldable pub archive_format : List ℕ → Format
archive_format text = if slice_index text 7 == 0x31 then OldArchive else Archive

-- the format by which a text that should be of this kind is read
abbrev pub format_for : TextKind → List ℕ → Format
format_for Archive_text text = archive_format text
format_for Operations_text text = Operations
format_for Summary_text text = Summary
