-- The fault of a text that is no index. There is one.
use Rattle.std.specs.Prelude.{◌≡◌, ℕ, ◌+◌, ◌-◌, ◌≤◌, ◌⊎◌, ◌==◌, not, List, [], ◌++◌, length, take}
use Rattle.std.specs.Prelude.{slice_index, if◌then◌else◌, min, nat_lt, Result, Ok, Err}
use Rattle.std.specs.List.{concat}
use Rattle.std.specs.Str.{bytes_eq}
use Rattle.table_checked_pages.specs.Pages.{AreStored}
use Rattle.archive_records.specs.Text.{last_of}
use Rattle.index_format.specs.Entry.{stored_size}
use Rattle.index_format.specs.Text.{AreLaid, HasNumbers, PassChecks, check_entry, count_in, earlier_magic, entries_claim}
use Rattle.index_format.specs.Text.{entries_in, first_in, index_magic, retirements_in, start_in}
use Rattle.index_format.specs.declared.index_fault.IndexFault.{IndexFault}
use Rattle.index_format.specs.declared.index_fault.IndexFaultKind.{IndexFaultKind}
use Rattle.index_format.specs.declared.index_fault.IndexFaultKind.TheVariants.{OldIndex, BadMagic, Truncated, BadCount}
use Rattle.index_format.specs.declared.index_fault.IndexFaultKind.TheVariants.{BadDigest, BadPlace, Device, OutOfMemory}

-- The checks of the beginning of a text: it has the magic, not that of earlier releases, and 57 more bytes for an end
-- record.
unfoldable pub check_beginning : List ℕ → Result (Unit {0}) IndexFaultKind
check_beginning text = if bytes_eq (take 8 text) earlier_magic then Err OldIndex
    else if not (bytes_eq (take 8 text) (take (min (length text) 8) index_magic)) then Err BadMagic
    else if nat_lt (length text) 65 then Err Truncated
    else Ok tt

-- The checks of the last 57 bytes: they are an end record, its number of entries fits into the text, and no more of them
-- are retirements.
unfoldable pub check_end : List ℕ → Result (Unit {0}) IndexFaultKind
check_end text = if not (slice_index text (length text - 57) == 3) then Err Truncated
    else if nat_lt (length text) (65 + stored_size (entries_claim text)) then Err BadCount
    else if nat_lt (count_in text) (retirements_in text) then Err BadCount
    else Ok tt

-- the offset of a fault in the beginning
abbrev pub beginning_offset : List ℕ → IndexFaultKind → ℕ
beginning_offset text OldIndex = 0
beginning_offset text BadMagic = 0
beginning_offset text _ = length text - 57

-- the beginning fails a check; the fault is that of the first
pub record FailsInBeginning (text : List ℕ) (fault : IndexFault) : Type 0 where
  pub fails : check_beginning text ≡ Err fault.kind
  pub offset_is : fault.offset ≡ beginning_offset text fault.kind

-- the beginning passes its checks, and the end record fails a check; the fault is that of the first
pub record FailsAtEnd (text : List ℕ) (fault : IndexFault) : Type 0 where
  pub beginning : check_beginning text ≡ Ok tt
  pub fails : check_end text ≡ Err fault.kind
  pub offset_is : fault.offset ≡ length text - 57

-- a text with the magic and an end record
pub record HasEnds (text : List ℕ) : Type 0 where
  pub beginning : check_beginning text ≡ Ok tt
  pub end : check_end text ≡ Ok tt

-- the entries are not stored under the root in the end record
pub record FailsDigest (text : List ℕ) (fault : IndexFault) : Type 0 where
  pub ends : HasEnds text
  pub kind_is : fault.kind ≡ BadDigest
  pub offset_is : fault.offset ≡ start_in text
  pub other : AreStored text (entries_claim text) (entries_in text) → ⊥

-- in these bytes, which begin at the offset `first`, the entry after these ones fails a check, where the tables end at
-- the other offset; the fault is that of the first
pub record FailsAfter (end first : ℕ) (bytes : List ℕ) (before : List (List ℕ)) (fault : IndexFault) : Type 0 where
  pub pass : PassChecks end [] before
  pub rest : List ℕ
  pub whole : bytes ≡ concat before ++ rest
  pub long : 122 ≤ length rest
  pub fails : check_entry end (last_of [] before) (take 122 rest) ≡ Err fault.kind
  pub offset_is : fault.offset ≡ first + length (concat before)

-- the entries are stored under the root in the end record
pub record HasDigest (text : List ℕ) : Type 0 where
  pub ends : HasEnds text
  pub stored : AreStored text (entries_claim text) (entries_in text)

-- an entry fails a check, and all entries before it pass theirs
pub record FailsInEntries (text : List ℕ) (fault : IndexFault) : Type 0 where
  pub digest : HasDigest text
  pub before : List (List ℕ)
  pub after : FailsAfter (start_in text) (first_in text) (entries_in text) before fault

-- the entries pass their checks, but their records or tables do not follow one another, or the end record has other
-- numbers
pub record FailsInPlaces (text : List ℕ) (fault : IndexFault) : Type 0 where
  pub digest : HasDigest text
  pub entries : List (List ℕ)
  pub whole : entries_in text ≡ concat entries
  pub pass : PassChecks (start_in text) [] entries
  pub unlaid : AreLaid (start_in text) entries → HasNumbers text entries → ⊥
  pub kind_is : fault.kind ≡ BadPlace
  pub offset_is : fault.offset ≡ start_in text

-- the fault of a text that is no index
abbrev pub IsIndexFault : List ℕ → IndexFault → Type 0
IsIndexFault text fault =
    FailsInBeginning text fault ⊎ FailsAtEnd text fault ⊎ FailsDigest text fault ⊎ FailsInEntries text fault
    ⊎ FailsInPlaces text fault

-- a fault that is not in the text
abbrev pub IsOfMachine : IndexFaultKind → Type 0
IsOfMachine kind = (kind ≡ Device) ⊎ (kind ≡ OutOfMemory)

-- the offset of a part that is read: the magic, the end record, or the entries
abbrev pub IsPartOffset : List ℕ → ℕ → Type 0
IsPartOffset text offset = (offset ≡ 0) ⊎ (offset ≡ length text - 57) ⊎ (offset ≡ start_in text)
