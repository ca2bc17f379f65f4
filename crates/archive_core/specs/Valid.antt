-- The bytes that are a slice, the faults of other bytes, and the key of a slice.
use Rattle.std.specs.Prelude.{◌≡◌, ℕ, List, Option, MatchOption}
use Rattle.macho_image.specs.Fault.{IsImage, IsImageFault}
use Rattle.macho_image.specs.Contents.{uuid_of, arch_of, IsRead}
use Rattle.macho_symbols.specs.Fault.{HasSymbols, IsSymbolFault}
use Rattle.sha2.specs.Sha256.{sha256}
use Rattle.archive_core.specs.declared.keys.Digest.{Digest}
use Rattle.archive_core.specs.declared.keys.SliceKey.{SliceKey}
use Rattle.archive_core.specs.declared.slices.SliceFacts.{SliceFacts}
use Rattle.archive_core.specs.declared.faults.SliceFault.{SliceFault}
use Rattle.archive_core.specs.declared.faults.SliceFault.TheVariants.{Image, Symbols}
use Rattle.archive_core.specs.declared.faults.AdmitFault.{AdmitFault}
use Rattle.archive_core.specs.declared.faults.AdmitFault.TheVariants.{Slice, OutOfMemory}

-- a slice is a thin 64-bit image without a fault, whose symbols can be read (mach-o/loader.h: mach_header_64, its load
-- commands and LC_SYMTAB)
pub record IsValid (bytes : List ℕ) : Type 0 where
  pub image : IsImage bytes
  pub symbols : HasSymbols bytes

-- the fault of bytes that are no slice: they are no image, or the symbols of the image cannot be read
abbrev pub IsSliceFault : List ℕ → SliceFault → Type 0
IsSliceFault bytes (Image fault) = IsImageFault bytes fault
IsSliceFault bytes (Symbols fault) = IsImage bytes × IsSymbolFault bytes fault

-- the fault of bytes that are not admitted: they are no slice, or they are a slice and memory ran out
abbrev pub IsAdmitFault : List ℕ → AdmitFault → Type 0
IsAdmitFault bytes (Slice fault) = IsSliceFault bytes fault
IsAdmitFault bytes OutOfMemory = IsValid bytes

-- the key of a slice: its LC_UUID, and the cputype and cpusubtype of its header, the latter with its high byte cleared
-- (mach/machine.h: CPU_SUBTYPE_MASK)
unfoldable pub key_of : List ℕ → SliceKey
key_of bytes = record {
  uuid = uuid_of bytes;
  arch = record { cputype = (arch_of bytes).0; cpusubtype = (arch_of bytes).1 };
}

-- the digest, if there is one, is the SHA-256 of the slice
abbrev pub IsDigestOf : List ℕ → Option Digest → Type 0
IsDigestOf slice digest = MatchOption digest (Unit {0}) (λ d. d.0 ≡ sha256 slice)

-- the facts of a slice: the bytes are valid, and the facts hold their key, the offsets of their symbols, and their
-- digest if it was computed
pub record IsCheckedOf (bytes : List ℕ) (facts : SliceFacts) : Type 0 where
  pub image : IsRead bytes facts.key.uuid facts.symtab
  pub symbols : HasSymbols bytes
  pub key_is : facts.key ≡ key_of bytes
  pub digest : IsDigestOf bytes facts.digest
