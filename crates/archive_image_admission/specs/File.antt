-- The files that are accepted, and the faults of the others (mach-o/fat.h, mach-o/loader.h).
use Rattle.std.specs.Prelude.{◌≡◌, ◌≢◌, ◌<◌, ℕ, Bool, true, List, [], ◌∷◌, Option, Some, None, All, nat_eq, filter}
use Rattle.std.specs.Prelude.{slice_get, if◌then◌else◌}
use Rattle.std.specs.List.{starts_with}
use Rattle.fat_slices.specs.Kind.{kind_of, is_fat, mh_magic_64}
use Rattle.fat_slices.specs.Slices.{slices}
use Rattle.fat_slices.specs.FatFault.{IsFatFault, IsUniversal}
use Rattle.fat_slices.specs.declared.file_kind.FileKind.{FileKind}
use Rattle.fat_slices.specs.declared.file_kind.FileKind.TheVariants.{Thin, Universal, Universal64, Other}
use Rattle.archive_core.specs.Valid.{IsValid, IsSliceFault}
use Rattle.archive_core.specs.declared.faults.SliceFault.{SliceFault}
use Rattle.archive_image_admission.specs.declared.fault.TakeFault.{TakeFault}
use Rattle.archive_image_admission.specs.declared.fault.TakeFault.TheVariants.{Unrecognised, Fat, Slice, NothingToAdmit}
use Rattle.archive_image_admission.specs.declared.fault.TakeFault.TheVariants.{OutOfMemory}

-- the parts of a file of a kind: a thin file is its only part, a universal file has its slices
abbrev pub parts_of : FileKind → List ℕ → List (List ℕ)
parts_of Thin file = file ∷ []
parts_of Universal file = slices file
parts_of Universal64 file = slices file
parts_of Other file = []

-- the parts of a file, in their order
unfoldable pub parts : List ℕ → List (List ℕ)
parts file = parts_of (kind_of file) file

-- whether a part begins like a 64-bit little-endian image: with MH_MAGIC_64
abbrev pub is_admissible : List ℕ → Bool
is_admissible part = starts_with nat_eq part mh_magic_64

-- the slice of a part that begins like an image; another part has none
abbrev pub slice_in : List ℕ → Option (List ℕ)
slice_in part = if is_admissible part then Some part else None

-- the parts of a file that begin like an image
abbrev pub admissible : List ℕ → List (List ℕ)
admissible file = filter is_admissible (parts file)

-- the file has parts: it is thin, or it is universal and each slice in its table is within the file
pub record HasParts (file : List ℕ) : Type 0 where
  pub kind : kind_of file ≢ Other
  pub table : is_fat (kind_of file) ≡ true → IsUniversal file

-- the file is accepted: each of its admissible parts is a slice, and there is at least one
pub record IsAcceptedFile (file : List ℕ) : Type 0 where
  pub parts_are : HasParts file
  pub valid : All IsValid (admissible file)
  pub some : admissible file ≢ []

-- part i of the file is admissible, and is no slice, with this fault
pub record IsRefusedPart (file : List ℕ) (i : ℕ) (fault : SliceFault) : Type 0 where
  pub part : List ℕ
  pub is : slice_get (parts file) i ≡ Some part
  pub begins : is_admissible part ≡ true
  pub refused : IsSliceFault part fault

-- i is the least index of a part that is refused
pub record IsFirstRefused (file : List ℕ) (i : ℕ) (fault : SliceFault) : Type 0 where
  pub here : IsRefusedPart file i fault
  pub first : (j : ℕ) (other : SliceFault) → j < i → IsRefusedPart file j other → ⊥

-- why no part of a file is admitted; each fault implies that those before it do not apply
abbrev pub IsTakeFault : List ℕ → TakeFault → Type 0
IsTakeFault file Unrecognised = kind_of file ≡ Other
IsTakeFault file (Fat fault) = (is_fat (kind_of file) ≡ true) × IsFatFault file fault
IsTakeFault file (Slice i fault) = HasParts file × IsFirstRefused file i fault
IsTakeFault file NothingToAdmit = HasParts file × (admissible file ≡ [])
IsTakeFault file OutOfMemory = IsAcceptedFile file
