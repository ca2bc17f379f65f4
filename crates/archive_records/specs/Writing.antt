-- The bytes that a writer of a text has added to the sink.
use Rattle.std.specs.Prelude.{◌≡◌, ℕ, List, length, Option, Result, Ok, Err}
use Rattle.std.specs.Io.KnownBytes.{Appends}
use Rattle.byte_device.specs.declared.writing.WriteFault.{WriteFault}
use Rattle.byte_device.specs.Devices.{FailedIn}
use Rattle.byte_device.specs.Writes.{WritesFirst}
use Rattle.archive_records.specs.declared.writing.Sizes.{Sizes}

-- The text of this number of records was written whole, these are its sizes, and the writer did not fail.
pub record IsWrittenWhole {W : Type 0} (held : W → Option (List ℕ)) (failures : W → ℕ) (old new : W) (records : ℕ)
    (text : List ℕ) (sizes : Sizes) : Type 0 where
  pub written : Appends (held old) (held new) text
  pub records_are : sizes.records ≡ records
  pub bytes_are : sizes.bytes ≡ length text
  pub unfailed : failures new ≡ failures old

-- The result of writing the text of this number of records: all of it, or, if the writer failed, exactly its first
-- `written` bytes, which are fewer than all.
abbrev pub Writes : {W : Type 0} → (W → Option (List ℕ)) → (W → ℕ) → W → W → ℕ → List ℕ → Result Sizes WriteFault
    → Type 0
Writes held failures old new records text (Ok sizes) = IsWrittenWhole held failures old new records text sizes
Writes held failures old new records text (Err fault) =
    WritesFirst (held old) (held new) text fault.written × FailedIn (failures old) (failures new)
