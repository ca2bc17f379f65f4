-- Entries with their numbers: the terms of the inner functions. No contract of a public function has them.
use Rattle.std.specs.Prelude.{◌≡◌, ◌≢◌, ◌&&◌, ◌==◌, not, ℕ, ◌+◌, Bool, true, List, [], ◌∷◌}
use Rattle.std.specs.Prelude.{◌++◌, Contains, filter, map, slice_index, take, drop}
use Rattle.std.specs.Prelude.{Option, Some, Result, MatchResult}
use Rattle.std.specs.List.{AllZip, list_any}
use Rattle.std.specs.Str.{bytes_eq}
use Rattle.byte_device.specs.Devices.{FailedIn}
use Rattle.table_checked_pages.specs.Pages.{Claim, MayBeStored}
use Rattle.table_checked_pages.specs.Views.{ArePagesOf}
use Rattle.table_checked_pages.specs.declared.pages.Pages.{Pages}
use Rattle.macho_image.specs.Sections.{text_base_of}
use Rattle.macho_symbols.specs.Found.{FoundRecord}
use Rattle.dwarf_source_frames.specs.Frames.{FrameRecord}
use Rattle.table_symbols.specs.Opened.{IsOpened, IsOpenedIn}
use Rattle.table_symbols.specs.Steps.{AreBytes}
use Rattle.table_symbols.specs.Table.{FitsTable, IsTableOf, TableParts, table_bytes}
use Rattle.table_symbols.specs.declared.table.Table.{Table}
use Rattle.table_source_frames.specs.OfBytes.{AreFramesIn, AreFramesOfStep}
use Rattle.table_source_frames.specs.Opened.{IsOpened as AreLinesOpened}
use Rattle.table_source_frames.specs.Steps.{AreFrameSteps, StepRecord}
use Rattle.table_source_frames.specs.declared.table.LineTable.{LineTable}
use Rattle.table_source_frames.specs.SliceTable.{IsSliceTable}
use Rattle.archive_core.specs.Lookup.{IsOwn}
use Rattle.archive_core.specs.Part.{is_under}
use Rattle.archive_core.specs.declared.lookup.Where.{Where}
use Rattle.index_format.specs.Entry.{length_in, offset_in}
use Rattle.index_format.specs.Entry.{claim_in, entry_bytes}
use Rattle.index_lookup.specs.Among.{AreOfOneSlice, EntryAt, HaveNoOrder, subject_of}
use Rattle.index_lookup.specs.AmongAsked.{HasNoTable}
use Rattle.index_lookup.specs.Told.{AreFramesOfPlace, AreFramesToldBy, HasNoLinesBy, IsToldBy, admits_under}
use Rattle.index_lookup.specs.Views.{frame_lists, told_view}
use Rattle.index_lookup.specs.declared.answers.EntryAnswers.{EntryAnswers}
use Rattle.index_lookup.specs.declared.fault.AnswerFault.{AnswerFault}
use Rattle.index_lookup.specs.declared.fault.AnswerFault.TheVariants.{Damaged, Device, NoLines, OutOfMemory}
use Rattle.index_lookup.specs.declared.numbered.Numbered.{Numbered}

-- an entry in the definitions
abbrev pub entry_at : Numbered → EntryAt
entry_at n = record { input = n.input; number = n.number; entry = entry_bytes n.entry }

-- the entries of an index, numbered from this number
abbrev pub entries_at : ℕ → ℕ → List (List ℕ) → List EntryAt
entries_at input number [] = []
entries_at input number (e ∷ es) =
    record { input = input; number = number; entry = e } ∷ entries_at input (number + 1) es

-- those of several indexes, which are numbered from this number
abbrev pub all_at : ℕ → List (List (List ℕ)) → List EntryAt
all_at input [] = []
all_at input (entries ∷ indexes) = entries_at input 0 entries ++ all_at (input + 1) indexes

-- an entry is that of a retirement, and its key begins with this prefix
abbrev pub retires_under : List ℕ → List ℕ → Bool
retires_under prefix e = (slice_index e 0 == 1) && is_under prefix e

-- the keys and digests of the retirements with this prefix among these entries
abbrev pub retired_of : List ℕ → List (List ℕ) → List (List ℕ)
retired_of prefix es = map subject_of (filter (retires_under prefix) es)

-- the key and the digest of an entry are among these
abbrev pub is_retired : List (List ℕ) → List ℕ → Bool
is_retired retired e = list_any (λ subject. bytes_eq subject (subject_of e)) retired

-- an entry is that of a slice with this prefix, and its key and digest are not among the retired ones
abbrev pub lives_by : List ℕ → List (List ℕ) → List ℕ → Bool
lives_by prefix retired e = admits_under prefix e && not (is_retired retired e)

-- the sort key of entries: the length of the record, the index, and the offset of the record in its archive
abbrev pub rank_in : EntryAt → List ℕ
rank_in x = length_in x.entry ∷ (x.input ∷ (offset_in x.entry ∷ []))

-- two entries have records of one length and are in two indexes
unfoldable pub has_same_length_elsewhere : EntryAt → EntryAt → Bool
has_same_length_elsewhere x y = (length_in x.entry == length_in y.entry) && not (x.input == y.input)

-- two entries have an order: if their records have one length and are in two archives, they are for one slice
abbrev pub HaveOrder : EntryAt → EntryAt → Type 0
HaveOrder x y = length_in x.entry ≡ length_in y.entry → x.input ≢ y.input → AreOfOneSlice x.entry y.entry

-- two of these entries have none
pub record HaveTie (xs : List EntryAt) : Type 0 where
  pub one : EntryAt
  pub other : EntryAt
  pub one_in : Contains xs one
  pub other_in : Contains xs other
  pub unordered : HaveNoOrder one other

-- A table is opened where a claim says: it is each table that may be stored there, and any bytes that may be.
pub record IsTableBy (text : List ℕ) (claim : Claim) (table : Table) : Type 0 where
  pub opened : (t : TableParts) → FitsTable t → MayBeStored text claim (table_bytes t) → IsOpened table text t
  pub of_bytes : (all : List ℕ) → MayBeStored text claim all → IsOpenedIn table text all

-- the answer of an opened table for an address
abbrev pub IsOwnOpened : Table → List ℕ → Where → Option FoundRecord → Type 0
IsOwnOpened table text asked own = (slice : List ℕ) (t : TableParts) → AreBytes slice → IsTableOf slice t
    → IsOpened table text t → IsOwn slice asked own

-- the vmaddr of the first segment named __TEXT in a table, for any bytes of the index
abbrev pub IsBaseBy : List ℕ → Claim → Option ℕ → Type 0
IsBaseBy text claim base = (slice table : List ℕ) → AreBytes slice → IsSliceTable slice table
    → MayBeStored text claim table → base ≡ text_base_of slice

-- The frames in an opened line table for an address, for a slice with this vmaddr; for any bytes, they are those of a
-- step.
pub record AreFramesOpened (table : LineTable) (pages : Pages) (base : Option ℕ) (text : List ℕ) (asked : Where)
    (frames : List FrameRecord) : Type 0 where
  pub of_slice : (slice all strings : List ℕ) (steps : List StepRecord) → AreFrameSteps slice steps → base ≡ text_base_of slice
      → AreLinesOpened table pages text all strings steps → AreFramesOfPlace asked slice frames
  pub of_bytes : (all : List ℕ) → ArePagesOf pages text all → AreFramesOfStep table all frames

-- The frames in a table for an address, for any bytes of the index and a slice with this vmaddr; and for any bytes.
pub record AreFramesBased (base : Option ℕ) (text : List ℕ) (claim : Claim) (asked : Where) (frames : List FrameRecord)
    : Type 0 where
  pub of_slice : (slice table : List ℕ) → AreBytes slice → base ≡ text_base_of slice → IsSliceTable slice table
      → MayBeStored text claim table → AreFramesOfPlace asked slice frames
  pub of_bytes : (all : List ℕ) → MayBeStored text claim all → AreFramesIn all frames

-- the answers of an entry for addresses, in their order, with these bytes of its index
pub record IsColumnOf (text : List ℕ) (lines : Bool) (asked : List Where) (x : EntryAt) (column : EntryAnswers)
    : Type 0 where
  pub digest_is : column.digest.0 ≡ take 32 (drop 25 x.entry)
  pub owns : AllZip (IsToldBy text (claim_in x.entry)) asked (map told_view column.owns.items)
  pub frames : lines ≡ true → AllZip (AreFramesToldBy text (claim_in x.entry)) asked (frame_lists column)

-- why one entry has no answer
abbrev pub IsUntoldOne : List ℕ → EntryAt → AnswerFault → Type 0
IsUntoldOne text x (Damaged input number) = (input ≡ x.input) × (number ≡ x.number) × HasNoTable text x.entry
IsUntoldOne text x (NoLines input number) =
    (input ≡ x.input) × (number ≡ x.number) × HasNoLinesBy text (claim_in x.entry)
IsUntoldOne text x (Device input offset) = Unit {0}
IsUntoldOne text x OutOfMemory = Unit {0}

-- the failures of the entry's device after a fault
abbrev pub BlamesOne : Bool → EntryAt → ℕ → ℕ → AnswerFault → Type 0
BlamesOne lines x old new (Damaged input number) = new ≡ old
BlamesOne lines x old new (NoLines input number) = (lines ≡ true) × (new ≡ old)
BlamesOne lines x old new (Device input offset) =
    (input ≡ x.input) × (offset ≡ (claim_in x.entry).offset) × FailedIn old new
BlamesOne lines x old new OutOfMemory = new ≡ old

-- the result of a query on one entry of its device
pub record AsksOne {D T : Type 0} (whole : D → Option (List ℕ)) (failures : D → ℕ) (lines : Bool) (x : EntryAt)
    (old new : D) (result : Result T AnswerFault) (IsTrue : List ℕ → T → Type 0) : Type 0 where
  pub says : (text : List ℕ) → whole old ≡ Some text → MatchResult result (IsTrue text) (IsUntoldOne text x)
  pub keeps : whole new ≡ whole old
  pub counts : MatchResult result (λ _. failures new ≡ failures old)
      (BlamesOne lines x (failures old) (failures new))
