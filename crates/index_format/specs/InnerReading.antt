-- Reading an index: the terms of the inner functions. No contract of a public function has them.
use Rattle.std.specs.Prelude.{◌≡◌, ℕ, ◌+◌, ◌-◌, ◌<◌, List, [], ◌∷◌, ◌++◌, ◌⊎◌, All, Ok, length, map, drop}
use Rattle.std.specs.Int.{w64, to_be_bytes}
use Rattle.std.specs.List.{concat}
use Rattle.table_checked_pages.specs.declared.fault.CheckFault.{CheckFault}
use Rattle.table_checked_pages.specs.declared.fault.CheckFault.TheVariants.{Changed, Device as CheckDevice}
use Rattle.table_checked_pages.specs.declared.fault.CheckFault.TheVariants.{OutOfMemory as NoMemory}
use Rattle.index_format.specs.Entry.{HasItsFields, entry_bytes}
use Rattle.index_format.specs.Fault.{FailsAtEnd, FailsDigest, FailsInBeginning, FailsInEntries, FailsInPlaces}
use Rattle.index_format.specs.Fault.{HasDigest, HasEnds, IsOfMachine, check_beginning}
use Rattle.index_format.specs.Text.{AreLaid, HasNumbers, PassChecks, archive_length_in, count_in, entries_in, first_in}
use Rattle.index_format.specs.Text.{retirements_in, root_in, start_in}
use Rattle.index_format.specs.declared.ends.Ends.{Ends}
use Rattle.index_format.specs.declared.entry.IndexEntry.{IndexEntry}
use Rattle.index_format.specs.declared.index_fault.IndexFault.{IndexFault}
use Rattle.index_format.specs.declared.index_fault.IndexFaultKind.{IndexFaultKind}
use Rattle.index_format.specs.declared.index_fault.IndexFaultKind.TheVariants.{BadDigest, Device, OutOfMemory}

-- the fault of a part that is stored with its digests, by why it was not read
abbrev pub unread_kind : CheckFault → IndexFaultKind
unread_kind Changed = BadDigest
unread_kind CheckDevice = Device
unread_kind NoMemory = OutOfMemory

-- why this number of bytes was not read from an offset: a fault outside the text, or there are fewer
abbrev pub IsUnread : ℕ → ℕ → List ℕ → IndexFault → Type 0
IsUnread offset count text fault = (fault.offset ≡ offset) × (IsOfMachine fault.kind ⊎ (length text < offset + count))

-- the text has the magic, and this is its size
pub record HasBeginning (text : List ℕ) (size : ℕ) : Type 0 where
  pub size_is : size ≡ length text
  pub beginning : check_beginning text ≡ Ok tt

-- the bytes of an end record with these numbers and this root
abbrev pub end_bytes : ℕ → ℕ → ℕ → List ℕ → List ℕ
end_bytes count retired long root =
    3 ∷ (to_be_bytes w64 count ++ (to_be_bytes w64 retired ++ (to_be_bytes w64 long ++ root)))

-- the ends of a text
pub record AreEndsOf (text : List ℕ) (ends : Ends) : Type 0 where
  pub has : HasEnds text
  pub start_is : ends.start ≡ start_in text
  pub first_is : ends.first ≡ first_in text
  pub count_is : ends.count ≡ count_in text
  pub retired_is : ends.retired ≡ retirements_in text
  pub length_is : ends.archive_len ≡ archive_length_in text
  pub root_is : ends.root ≡ root_in text
  pub end_is : drop (length text - 57) text ≡ end_bytes ends.count ends.retired ends.archive_len ends.root

-- the fault of the ends of a text
abbrev pub FailsInEnds : List ℕ → IndexFault → Type 0
FailsInEnds text fault = FailsInBeginning text fault ⊎ FailsAtEnd text fault

-- the bytes of the entries, after the comparison with their root
pub record AreEntriesOf (text bytes : List ℕ) : Type 0 where
  pub digest : HasDigest text
  pub bytes_are : bytes ≡ entries_in text

-- the entries with these bytes, which pass their checks
pub record AreChecked (end : ℕ) (bytes : List ℕ) (entries : List IndexEntry) : Type 0 where
  pub whole : concat (map entry_bytes entries) ≡ bytes
  pub fields : All HasItsFields entries
  pub pass : PassChecks end [] (map entry_bytes entries)

-- the entries of a text that pass their checks, whose records and tables follow one another, and which the end record
-- counts
pub record AreReadOf (text : List ℕ) (entries : List IndexEntry) : Type 0 where
  pub digest : HasDigest text
  pub checked : AreChecked (start_in text) (entries_in text) entries
  pub laid : AreLaid (start_in text) (map entry_bytes entries)
  pub numbers : HasNumbers text (map entry_bytes entries)

-- the fault of the entries of a text
abbrev pub FailsAfterEnds : List ℕ → IndexFault → Type 0
FailsAfterEnds text fault = FailsDigest text fault ⊎ FailsInEntries text fault ⊎ FailsInPlaces text fault
