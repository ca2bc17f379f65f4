-- A copy of the records of an archive that a summary does not name: definitions for private functions. No public
-- contract uses them.
use Rattle.std.specs.Prelude.{◌≡◌, ℕ, ◌+◌, ◌≤◌, List, [], ◌++◌, length, take, Option, Some, Result, Ok, Err, ◌⊎◌}
use Rattle.std.specs.List.{concat}
use Rattle.std.specs.FinSet as set
use Rattle.std.specs.Io.KnownBytes.{Appends, Consumes, IsAtEnd}
use Rattle.archive_core.specs.Content.{Operations, IsContent, content_of}
use Rattle.archive_core.specs.Summary.{Entries, delta}
use Rattle.archive_records.specs.declared.fault.MergeCause.{MergeCause}
use Rattle.archive_records.specs.declared.fault.MergeCause.TheVariants.{Left, Right, Write}
use Rattle.archive_records.specs.declared.fault.MergeFault.{MergeFault}
use Rattle.archive_records.specs.declared.format.Format.{Format}
use Rattle.archive_records.specs.declared.kind.TextKind.TheVariants.{Archive as Archive_text}
use Rattle.archive_records.specs.declared.writing.Sizes.{Sizes}
use Rattle.archive_records.specs.Kind.{end_length, kind_of, magic, magic_of}
use Rattle.archive_records.specs.Reader.{HasReadAll, HasStopped, Position, Stopped}
use Rattle.archive_records.specs.Reading.{Blames, IsReadWhole}
use Rattle.archive_records.specs.Text.{end_record, missing, text_of, written, taken_of, InOrder, AreApart, IsArchiveOf}
use Rattle.archive_records.specs.Writing.{IsWrittenWhole}
use Rattle.byte_device.specs.Devices.{FailedIn, Stream}
use Rattle.byte_device.specs.Writes.{WritesFirst}
use Rattle.archive_merge.specs.Merging.{AreGoodRecords, Gains, GainsCount, GainsNoText, IsBegun, IsRefusedAlone}
use Rattle.archive_merge.specs.Merging.{IsUnfailed}
use Rattle.command_common.specs.Ends.{Command, MakesArchive}
use Rattle.command_common.specs.Inputs.{Reader, Unfailed, IsRefusedArchive, HoldsArchive}

-- ---- while it runs

-- the text for these records before the end record: the magic, and the records that the summary does not name
abbrev pub copy_of : Entries → List (List ℕ) → List ℕ
copy_of s records = magic ++ concat (missing s records)

-- That text was written, and these are its sizes.
pub record IsCopied (s : Entries) (w0 w1 : Option (List ℕ)) (records : List (List ℕ)) (sizes : Sizes) : Type 0 where
  pub gained : Appends w0 w1 (copy_of s records)
  pub bytes_are : sizes.bytes ≡ length (copy_of s records)
  pub records_are : sizes.records ≡ length (missing s records)

-- The archive was read up to these records and these bytes after them, and the first n bytes of their copy were
-- written.
pub record IsCopiedUpTo (file : Format) (s : Entries) (a b w0 w1 : Option (List ℕ)) (n : ℕ) : Type 0 where
  pub records : List (List ℕ)
  pub rest : List ℕ
  pub taken : Consumes a b (magic_of file ++ (concat records ++ rest))
  pub ordered : InOrder file [] records
  pub apart : AreApart file records
  pub within : n ≤ length (copy_of s (taken_of file records))
  pub gained : Appends w0 w1 (take n (copy_of s (taken_of file records)))

-- the cause that stopped the copy after the magic
abbrev pub StopsRecords : Format → Option (List ℕ) → Option (List ℕ) → MergeCause → Type 0
StopsRecords file a b (Left fault) = (records : List (List ℕ)) × Stopped file a b records fault
StopsRecords file a b (Right fault) = ⊥
StopsRecords file a b Write = Unit {0}

-- for this cause, whether the reader or the writer failed
abbrev pub BlamesOne : {R : Type 0} → (R → Option (List ℕ)) → (R → ℕ) → R → R → ℕ → ℕ → MergeCause → Type 0
BlamesOne left failures old new w_old w_new (Left fault) = Blames left failures old new fault.kind × (w_new ≡ w_old)
BlamesOne left failures old new w_old w_new (Right fault) = ⊥
BlamesOne left failures old new w_old w_new Write = (failures new ≡ failures old) × FailedIn w_old w_new

-- the same for a result; on success neither failed
abbrev pub BlamesDevices : {R T : Type 0} → (R → Option (List ℕ)) → (R → ℕ) → R → R → ℕ → ℕ → Result T MergeFault
    → Type 0
BlamesDevices left failures old new w_old w_new (Ok _) = (failures new ≡ failures old) × (w_new ≡ w_old)
BlamesDevices left failures old new w_old w_new (Err e) = BlamesOne left failures old new w_old w_new e.cause

-- The whole text of the archive of these records was written; these are its sizes.
pub record IsCopiedWhole (s : Entries) (w0 w1 : Option (List ℕ)) (records : List (List ℕ)) (sizes : Sizes)
    : Type 0 where
  pub written_is : Appends w0 w1 (copy_of s records ++ end_record (length (missing s records)))
  pub bytes_are : sizes.bytes ≡ length (copy_of s records ++ end_record (length (missing s records)))
  pub records_are : sizes.records ≡ length (missing s records)

-- The archive was read to its end, and the first n bytes of its copy were written, and not all.
pub record IsCopiedToEnd (file : Format) (s : Entries) (a b w0 w1 : Option (List ℕ)) (n : ℕ) : Type 0 where
  pub records : List (List ℕ)
  pub taken : Consumes a b (text_of file records)
  pub at_end : IsAtEnd b
  pub ordered : InOrder file [] records
  pub apart : AreApart file records
  pub first : WritesFirst w0 w1
      (copy_of s (taken_of file records) ++ end_record (length (missing s (taken_of file records)))) n

-- the bytes written when the copy was stopped: none, or the first bytes of the copy of the records that were read
abbrev pub HasDraft : Entries → Option (List ℕ) → Option (List ℕ) → Option (List ℕ) → Option (List ℕ) → ℕ → Type 0
HasDraft s a b w0 w1 n =
    ((n ≡ 0) × Appends w0 w1 [])
    ⊎ ((file : Format) × (kind_of file ≡ Archive_text)
    × (IsCopiedUpTo file s a b w0 w1 n ⊎ IsCopiedToEnd file s a b w0 w1 n))

-- the magic of an archive was read, and some bytes after it
abbrev pub ReadsAfterMagic : Option (List ℕ) → Option (List ℕ) → Type 0
ReadsAfterMagic a b = (file : Format) × (kind_of file ≡ Archive_text) × (rest : List ℕ)
    × Consumes a b (magic_of file ++ rest)

-- the cause that stopped it: reading, or, after the magic, writing
abbrev pub IsCause : Option (List ℕ) → Option (List ℕ) → MergeCause → Type 0
IsCause a b (Left fault) = HasStopped Archive_text a b fault
IsCause a b (Right fault) = ⊥
IsCause a b Write = ReadsAfterMagic a b

-- the cause that stopped it in or after the end record: more bytes, the device, or the writer
abbrev pub StopsEnd : Position → Option (List ℕ) → Option (List ℕ) → Option (List ℕ) → Option (List ℕ) → Sizes
    → MergeCause → ℕ → Type 0
StopsEnd position a b w0 w1 sizes (Left fault) n =
    ((file : Format) (c : Option (List ℕ)) (records : List (List ℕ)) → end_length file ≡ Some 9
    → HasReadAll file c a records position → Stopped file c b records fault)
    × (n ≡ sizes.bytes) × (w1 ≡ w0)
StopsEnd position a b w0 w1 sizes (Right fault) n = ⊥
StopsEnd position a b w0 w1 sizes Write n =
    IsAtEnd b × Consumes a b []
    × ((k : ℕ) × (n ≡ sizes.bytes + k) × WritesFirst w0 w1 (end_record sizes.records) k)

-- ---- its result

-- The input is an archive's text, and the text of its operations that the summary does not name was written.
pub record CopiesUnnamed {R W : Type 0} (input : Stream R) (draft : Stream W) (s : Entries) (sizes : Sizes)
    : Type 0 where
  pub content : Operations
  pub read : IsReadWhole Archive_text content input.bytes input.failures input.old input.new
  pub written_is : IsWrittenWhole draft.bytes draft.failures draft.old draft.new (set.len (delta content s))
      (written (delta content s)) sizes

-- why the copy was stopped: only the input is refused, for this fault; or the writer failed, and the reader did not
abbrev pub StopsCopyBy : {R W : Type 0} → Stream R → Stream W → MergeCause → Type 0
StopsCopyBy input draft (Left fault) = IsRefusedAlone input fault × IsUnfailed draft
StopsCopyBy input draft (Right fault) = ⊥
StopsCopyBy input draft Write = IsUnfailed input × FailedIn (draft.failures draft.old) (draft.failures draft.new)

-- The copy was stopped. Of the copy of the input's good records, exactly the first bytes were written, and not all. The
-- written bytes are not the text of an archive, and nothing was written before the magic of the input was read.
pub record StopsCopy {R W : Type 0} (input : Stream R) (draft : Stream W) (s : Entries) (e : MergeFault)
    : Type 0 where
  pub by : StopsCopyBy input draft e.cause
  pub first : (text : List ℕ) (records : List (List ℕ)) → AreGoodRecords text records
      → input.bytes input.old ≡ Some text
      → WritesFirst (draft.bytes draft.old) (draft.bytes draft.new)
      (written (delta (content_of (set.from_list records)) s)) e.written
  pub count : GainsCount draft e.written
  pub no_text : GainsNoText draft
  pub begun : (Gains draft [] × IsUnfailed draft) ⊎ IsBegun input

-- ---- as a command

-- ARCHIVE is an archive's text, and `content` is that of its operations that the entries do not name. The only lines
-- are the sizes.
pub record MakesUnnamed {R : Type 0} (archive : Reader R) (s : Entries) (content : Operations) (lines : List ℕ)
    : Type 0 where
  pub before : Operations
  pub is_content : IsContent before
  pub archive_is : HoldsArchive archive before
  pub content_is : content ≡ delta before s
  pub lines_are : lines ≡ []

-- a command that makes that text from an archive
abbrev pub copying : {R : Type 0} → Reader R → Entries → Command
copying archive s = record {
  Makes = MakesArchive (MakesUnnamed archive s);
  Refuses = IsRefusedArchive 0 archive;
  Unfailed = Unfailed archive;
}

-- ARCHIVE is an archive's text, and the text of its operations that the entries do not name was written.
pub record IsUnnamed {R W : Type 0} (archive : Reader R) (s : Entries) (draft : Stream W) (sizes : Sizes) : Type 0 where
  pub before : Operations
  pub is_content : IsContent before
  pub archive_is : HoldsArchive archive before
  pub unfailed : Unfailed archive
  pub written_is : IsWrittenWhole draft.bytes draft.failures draft.old draft.new (set.len (delta before s))
      (written (delta before s)) sizes
