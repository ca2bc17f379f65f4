-- Why bytes are no universal file: the fields of mach-o/fat.h that must be valid.
use Rattle.std.specs.Prelude.{ℕ, false, List, length, ◌≡◌, ◌+◌, ◌<◌, ◌⊎◌}
use Rattle.fat_slices.specs.Kind.{kind_of, is_fat}
use Rattle.fat_slices.specs.Layout.{nfat_arch, table_end, arch_at}
use Rattle.fat_slices.specs.declared.fat_fault.FatFault.{FatFault}
use Rattle.fat_slices.specs.declared.fat_fault.FatFault.TheVariants.{NotUniversal, HeaderTruncated, TooManyArches}
use Rattle.fat_slices.specs.declared.fat_fault.FatFault.TheVariants.{TableTruncated, SliceOutside, TooLarge}

-- the slice of entry i ends after the end of the file, in whole numbers
abbrev pub IsOutside : List ℕ → ℕ → Type 0
IsOutside file i = length file < (arch_at file i).offset + (arch_at file i).size

-- the slice of entry i has more bytes than a uint32_t can count
abbrev pub IsTooLarge : List ℕ → ℕ → Type 0
IsTooLarge file i = 4294967295 < (arch_at file i).size

-- a fault applies
abbrev pub Applies : List ℕ → FatFault → Type 0
Applies file NotUniversal = is_fat (kind_of file) ≡ false
Applies file HeaderTruncated = length file < 8
Applies file (TooManyArches n) = (n ≡ nfat_arch file) × (32 < nfat_arch file)
Applies file TableTruncated = length file < table_end file
Applies file (SliceOutside i) = (i < nfat_arch file) × IsOutside file i
Applies file (TooLarge i) = (i < nfat_arch file) × IsTooLarge file i

-- the number of a fault in the order of the tests
abbrev pub number : FatFault → ℕ
number NotUniversal = 1
number HeaderTruncated = 2
number (TooManyArches n) = 3
number TableTruncated = 4
number (SliceOutside i) = 5
number (TooLarge i) = 6

-- the index of the entry of a fault, if it is in an entry
abbrev pub entry : FatFault → ℕ
entry NotUniversal = 0
entry HeaderTruncated = 0
entry (TooManyArches n) = 0
entry TableTruncated = 0
entry (SliceOutside i) = i
entry (TooLarge i) = i

-- f is before g: it has the lesser number, or the same number and the lesser entry
abbrev pub IsBefore : FatFault → FatFault → Type 0
IsBefore f g = (number f < number g) ⊎ ((number f ≡ number g) × (entry f < entry g))

-- the fault of bytes that are no universal file: the first of the faults that apply
pub record IsFatFault (file : List ℕ) (fault : FatFault) : Type 0 where
  pub applies : Applies file fault
  pub first : (other : FatFault) → IsBefore other fault → Applies file other → ⊥

-- the bytes are a universal file: no fault applies
pub record IsUniversal (file : List ℕ) : Type 0 where
  pub none : (fault : FatFault) → Applies file fault → ⊥
