-- The results of making the index of an archive while it is read.
use Rattle.std.specs.Prelude.{◌≡◌, ◌+◌, ◌<◌, ◌≤◌, ◌^◌, ℕ, List, [], ◌∷◌, ◌++◌, ◌⊎◌, length}
use Rattle.std.specs.Prelude.{take, Option, Some, IfSome, Result, Ok, Err}
use Rattle.std.specs.List.{AllZip, concat}
use Rattle.std.specs.FinSet as set
use Rattle.std.specs.Io.KnownBytes.{Appends, Consumes}
use Rattle.byte_device.specs.Devices.{FailedIn, Stream}
use Rattle.byte_device.specs.Writes.{WritesFirst}
use Rattle.byte_device.specs.declared.writing.WriteFault.{WriteFault}
use Rattle.join_core.specs.Listing.{listing}
use Rattle.table_checked_pages.specs.Pages.{stored}
use Rattle.archive_core.specs.Content.{Operations, IsContent}
use Rattle.archive_records.specs.Kind.{magic}
use Rattle.archive_records.specs.Reading.{IsReadWhole}
use Rattle.archive_records.specs.Text.{AreApart, InOrder, written}
use Rattle.archive_records.specs.Writing.{IsWrittenWhole}
use Rattle.archive_records.specs.declared.format.Format.TheVariants.{Archive as Archive_format}
use Rattle.archive_records.specs.declared.kind.TextKind.TheVariants.{Archive}
use Rattle.archive_records.specs.declared.writing.Sizes.{Sizes}
use Rattle.index_format.specs.Making.{RefusesToIndex, TellsVersion}
use Rattle.index_format.specs.declared.fault.IndexingFault.{IndexingFault}
use Rattle.index_format.specs.declared.fault.IndexingFault.TheVariants.{TooLong}
use Rattle.index_build.specs.Content.{HasByteSlices, IsIndexOf, IsTableOf, front_of}
use Rattle.index_build.specs.declared.fault.MakingFault.{MakingFault}
use Rattle.index_build.specs.declared.fault.MakingFault.TheVariants.{Archive as Refused, Write}

-- The offset of each record in the archive is below 2^64, and that of its table in the index; the first ones have these
-- offsets.
abbrev pub AreNear : ℕ → ℕ → List (List ℕ) → List (List ℕ) → Type 0
AreNear offset at [] tables = Unit {0}
AreNear offset at (r ∷ rs) [] = Unit {0}
AreNear offset at (r ∷ rs) (t ∷ ts) =
    (offset < 2 ^ 64) × (at < 2 ^ 64) × AreNear (offset + length r) (at + length (stored t)) rs ts

-- The whole input is the text of one content of byte strings, in version 2, and its index was written, with these
-- sizes.
pub record IsMade {R W : Type 0} (input : Stream R) (out : Stream W) (sizes : Sizes) : Type 0 where
  pub content : Operations
  pub whole : IsReadWhole Archive content input.bytes input.failures input.old input.new
  pub text : IfSome (input.bytes input.old) (λ text. text ≡ written content)
  pub index : List ℕ
  pub is_index : IsIndexOf content index
  pub slices : HasByteSlices content
  pub near : AreNear 8 8 (listing content) is_index.tables
  pub put : IsWrittenWhole out.bytes out.failures out.old out.new (set.len content) index sizes

-- If the input is the text of a content, the writer has accepted exactly the first n bytes of its index, fewer than
-- all.
abbrev pub HasFirst : {R W : Type 0} → Stream R → Stream W → ℕ → Type 0
HasFirst input out n = (o : Operations) (index : List ℕ) → IsContent o → input.bytes input.old ≡ Some (written o)
    → IsIndexOf o index → WritesFirst (out.bytes out.old) (out.bytes out.new) index n

-- From an input with this state before and after, the magic, these records and one more record were read; the writer
-- accepted the front of their index. The offset of that one record, or of its table, does not fit into eight bytes.
pub record IsTooFar (left_old left_new held_old held_new : Option (List ℕ)) : Type 0 where
  pub records : List (List ℕ)
  pub next : List ℕ
  pub tables : List (List ℕ)
  pub taken : Consumes left_old left_new (magic ++ concat (records ++ next ∷ []))
  pub ordered : InOrder Archive_format [] (records ++ next ∷ [])
  pub apart : AreApart Archive_format (records ++ next ∷ [])
  pub each : AllZip IsTableOf records tables
  pub gained : Appends held_old held_new (front_of tables)
  pub far : (2 ^ 64 ≤ length (magic ++ concat records)) ⊎ (2 ^ 64 ≤ length (front_of tables))

-- From an input with this state before and after, the magic, these records and the bytes after them were read; of the
-- front of their index the writer accepted the first n bytes.
pub record HasBegun (left_old left_new held_old held_new : Option (List ℕ)) (n : ℕ) : Type 0 where
  pub records : List (List ℕ)
  pub tables : List (List ℕ)
  pub rest : List ℕ
  pub taken : Consumes left_old left_new (magic ++ (concat records ++ rest))
  pub ordered : InOrder Archive_format [] records
  pub apart : AreApart Archive_format records
  pub each : AllZip IsTableOf records tables
  pub within : n ≤ length (front_of tables)
  pub gained : Appends held_old held_new (take n (front_of tables))

-- the same, or nothing was written yet
abbrev pub IsBegun : Option (List ℕ) → Option (List ℕ) → Option (List ℕ) → Option (List ℕ) → ℕ → Type 0
IsBegun left_old left_new held_old held_new n =
    ((n ≡ 0) × Appends held_old held_new []) ⊎ HasBegun left_old left_new held_old held_new n

-- The whole input is the text of a content, and the writer accepted the first n bytes of its index, fewer than all.
pub record HasReadWhole {R W : Type 0} (input : Stream R) (out : Stream W) (n : ℕ) : Type 0 where
  pub content : Operations
  pub whole : IsReadWhole Archive content input.bytes input.failures input.old input.new
  pub index : List ℕ
  pub is_index : IsIndexOf content index
  pub first : WritesFirst (out.bytes out.old) (out.bytes out.new) index n

-- Why no index is made from an archive: it is refused as by any reader of archives, it has version 1, or the offset of
-- a record or a table would be too large.
abbrev pub RefusesToMake : {R W : Type 0} → Stream R → Stream W → IndexingFault → Type 0
RefusesToMake input out TooLong =
    IsTooFar (input.bytes input.old) (input.bytes input.new) (out.bytes out.old) (out.bytes out.new)
    × (input.failures input.new ≡ input.failures input.old)
RefusesToMake input out fault = RefusesToIndex input.bytes input.failures input.old input.new fault

-- The archive is refused, or has no index. The writer did not fail, and has accepted the first bytes of an index: of
-- that of the records that were read, and so of that of each content whose text the input is.
pub record IsRefused {R W : Type 0} (input : Stream R) (out : Stream W) (fault : IndexingFault) : Type 0 where
  pub refused : RefusesToMake input out fault
  pub version : TellsVersion (input.bytes input.old) fault
  pub unfailed : out.failures out.new ≡ out.failures out.old
  pub count : ℕ
  pub begun : IsBegun (input.bytes input.old) (input.bytes input.new) (out.bytes out.old) (out.bytes out.new) count
  pub first : HasFirst input out count

-- The writer failed after it had accepted this number of first bytes of the index. The reader did not fail.
pub record IsStopped {R W : Type 0} (input : Stream R) (out : Stream W) (fault : WriteFault) : Type 0 where
  pub unfailed : input.failures input.new ≡ input.failures input.old
  pub failed : FailedIn (out.failures out.old) (out.failures out.new)
  pub bytes : List ℕ
  pub took : Appends (out.bytes out.old) (out.bytes out.new) bytes
  pub count : fault.written ≡ length bytes
  pub begun :
      IsBegun (input.bytes input.old) (input.bytes input.new) (out.bytes out.old) (out.bytes out.new) fault.written
      ⊎ HasReadWhole input out fault.written
  pub first : HasFirst input out fault.written

-- The result of making the index of an archive.
abbrev pub Makes : {R W : Type 0} → Stream R → Stream W → Result Sizes MakingFault → Type 0
Makes input out (Ok sizes) = IsMade input out sizes
Makes input out (Err (Refused fault)) = IsRefused input out fault
Makes input out (Err (Write fault)) = IsStopped input out fault
