-- Making an index record by record: the terms of the inner functions. No contract of a public function has them.
use Rattle.std.specs.Prelude.{◌≡◌, ◌≤◌, ◌^◌, ℕ, List, [], ◌⊎◌, All, map, Option}
use Rattle.std.specs.List.{AllZip}
use Rattle.std.specs.Io.KnownBytes.{Appends, Consumes}
use Rattle.byte_device.specs.Writes.{IsPut, StopsPut}
use Rattle.byte_device.specs.Devices.{FailedIn}
use Rattle.table_checked_pages.specs.Pages.{stored}
use Rattle.table_symbols.specs.Steps.{AreBytes}
use Rattle.archive_records.specs.Kind.{old_magic}
use Rattle.archive_records.specs.Reader.{HasRead, HasReadAll, HasStopped, Position}
use Rattle.archive_records.specs.declared.format.Format.TheVariants.{Archive}
use Rattle.archive_records.specs.declared.fault.RecordFaultKind.TheVariants.{OutOfMemory as Wanted}
use Rattle.archive_records.specs.declared.kind.TextKind.TheVariants.{Archive as Archive_text}
use Rattle.index_format.specs.InnerMaking.{BlamesIndexing}
use Rattle.index_format.specs.Making.{TellsVersion}
use Rattle.index_format.specs.declared.fault.IndexingFault.TheVariants.{Archive as Archive_fault, OldArchive, TooLong}
use Rattle.index_format.specs.Entry.{entry_bytes}
use Rattle.index_format.specs.declared.entry.IndexEntry.{IndexEntry}
use Rattle.index_build.specs.Content.{IsTableOf, front_of, table_entries}
use Rattle.index_build.specs.Making.{AreNear, IsBegun, IsTooFar}
use Rattle.index_build.specs.declared.fault.MakingFault.{MakingFault}
use Rattle.index_build.specs.declared.fault.MakingFault.TheVariants.{Archive as Refused, Write as Wrote}
use Rattle.index_build.specs.declared.fault.TableFault.{TableFault}
use Rattle.index_build.specs.declared.fault.TableFault.TheVariants.{OutOfMemory, Write}

-- why a table of this kind was not written whole: memory ran out before its first byte, or the writer failed in it
abbrev pub StopsTable : {W : Type 0} → (W → Option (List ℕ)) → (W → ℕ) → W → W → ℕ → (List ℕ → Type 0) → TableFault
    → Type 0
StopsTable held failures old new done IsTable OutOfMemory =
    Appends (held old) (held new) [] × (failures new ≡ failures old)
StopsTable held failures old new done IsTable (Write fault) = (table : List ℕ) × IsTable table
    × StopsPut held failures old new done (stored table) fault.written

-- these are the tables of the records, which are bytes, and their entries
pub record AreTabled (records tables : List (List ℕ)) (entries : List IndexEntry) : Type 0 where
  pub bytes : All AreBytes records
  pub near : AreNear 8 8 records tables
  pub each : AllZip IsTableOf records tables
  pub entries_are : map entry_bytes entries ≡ table_entries 8 8 records tables

-- The magic of an archive and these records were read, and the front of its index was written.
pub record HasPut {W : Type 0} (a b : Option (List ℕ)) (held : W → Option (List ℕ)) (failures : W → ℕ) (old new : W)
    (entries : List IndexEntry) (position : Position) (done : ℕ) : Type 0 where
  pub records : List (List ℕ)
  pub tables : List (List ℕ)
  pub read : HasRead Archive a b records position
  pub tabled : AreTabled records tables entries
  pub put : IsPut held failures old new 0 (front_of tables) done

-- The same up to the end record.
pub record HasPutAll {W : Type 0} (a b : Option (List ℕ)) (held : W → Option (List ℕ)) (failures : W → ℕ) (old new : W)
    (entries : List IndexEntry) (position : Position) (done : ℕ) : Type 0 where
  pub records : List (List ℕ)
  pub tables : List (List ℕ)
  pub read : HasReadAll Archive a b records position
  pub tabled : AreTabled records tables entries
  pub put : IsPut held failures old new 0 (front_of tables) done

-- why the table of a record at this offset in the archive was not written
abbrev pub StopsRecord : {W : Type 0} → (W → Option (List ℕ)) → (W → ℕ) → W → W → ℕ → ℕ → List ℕ → MakingFault → Type 0
StopsRecord held failures old new before done r (Refused TooLong) =
    Appends (held old) (held new) [] × (failures new ≡ failures old) × ((2 ^ 64 ≤ before) ⊎ (2 ^ 64 ≤ done))
StopsRecord held failures old new before done r (Refused OldArchive) = ⊥
StopsRecord held failures old new before done r (Refused (Archive_fault fault)) =
    Appends (held old) (held new) [] × (failures new ≡ failures old)
    × (fault ≡ record { kind = Wanted; offset = before })
StopsRecord held failures old new before done r (Wrote fault) = (table : List ℕ) × IsTableOf r table
    × StopsPut held failures old new done (stored table) fault.written

-- why reading and writing stopped; the first bytes of the index were written
abbrev pub HasStoppedMaking : {W : Type 0} → Option (List ℕ) → Option (List ℕ) → (W → Option (List ℕ)) → (W → ℕ) → W
    → W → MakingFault → Type 0
HasStoppedMaking a b held failures old new (Refused (Archive_fault fault)) =
    HasStopped Archive_text a b fault × (failures new ≡ failures old) × ((n : ℕ) × IsBegun a b (held old) (held new) n)
HasStoppedMaking a b held failures old new (Refused OldArchive) =
    Consumes a b old_magic × (failures new ≡ failures old) × ((n : ℕ) × IsBegun a b (held old) (held new) n)
HasStoppedMaking a b held failures old new (Refused TooLong) =
    IsTooFar a b (held old) (held new) × (failures new ≡ failures old)
    × ((n : ℕ) × IsBegun a b (held old) (held new) n)
HasStoppedMaking a b held failures old new (Wrote fault) =
    FailedIn (failures old) (failures new) × IsBegun a b (held old) (held new) fault.written

-- the state of the reader after a fault
abbrev pub BlamesMaking : {R : Type 0} → (R → Option (List ℕ)) → (R → ℕ) → R → R → MakingFault → Type 0
BlamesMaking left failures old new (Refused fault) = BlamesIndexing left failures old new fault
BlamesMaking left failures old new (Wrote fault) = failures new ≡ failures old

-- a text that begins as an archive of version 1 is refused as such
abbrev pub TellsVersionMaking : Option (List ℕ) → MakingFault → Type 0
TellsVersionMaking left (Refused fault) = TellsVersion left fault
TellsVersionMaking left (Wrote fault) = Unit {0}
