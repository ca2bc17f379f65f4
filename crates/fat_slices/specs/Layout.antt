-- The offsets of the numbers in a universal file (mach-o/fat.h). Each number is big-endian.
use Rattle.std.specs.Prelude.{ℕ, ◌+◌, ◌*◌, List, drop}
use Rattle.byteorder.specs.Endian.{big_number}
use Rattle.fat_slices.specs.Kind.{kind_of}
use Rattle.fat_slices.specs.declared.fat_arch.FatArch.{FatArch}
use Rattle.fat_slices.specs.declared.file_kind.FileKind.{FileKind}
use Rattle.fat_slices.specs.declared.file_kind.FileKind.TheVariants.{Thin, Universal, Universal64, Other}

-- uint32_t: the number in the four bytes from an offset
unfoldable pub u32_be_at : List ℕ → ℕ → ℕ
u32_be_at bytes offset = big_number 4 (drop offset bytes)

-- uint64_t: the number in the eight bytes from an offset
unfoldable pub u64_be_at : List ℕ → ℕ → ℕ
u64_be_at bytes offset = big_number 8 (drop offset bytes)

-- fat_header (8 bytes: magic 0, nfat_arch 4): the number of entries of the table after it
abbrev pub nfat_arch : List ℕ → ℕ
nfat_arch file = u32_be_at file 4

-- fat_arch (20 bytes: cputype 0, cpusubtype 4, offset 8, size 12, align 16, each of them uint32_t)
abbrev pub fat_arch : List ℕ → FatArch
fat_arch entry = record { offset = u32_be_at entry 8; size = u32_be_at entry 12 }

-- fat_arch_64 (32 bytes: cputype 0, cpusubtype 4, uint64_t offset 8, uint64_t size 16, align 24, reserved 28)
abbrev pub fat_arch_64 : List ℕ → FatArch
fat_arch_64 entry = record { offset = u64_be_at entry 8; size = u64_be_at entry 16 }

-- the entry at the front of the bytes, in a file of a kind; only FAT_MAGIC and FAT_MAGIC_64 have a table
abbrev pub arch_of : FileKind → List ℕ → FatArch
arch_of Thin entry = fat_arch entry
arch_of Universal entry = fat_arch entry
arch_of Universal64 entry = fat_arch_64 entry
arch_of Other entry = fat_arch entry

-- the size of an entry in a file of a kind
abbrev pub arch_size : FileKind → ℕ
arch_size Thin = 20
arch_size Universal = 20
arch_size Universal64 = 32
arch_size Other = 20

-- the offset of entry i of the table: the table directly follows its fat_header
abbrev pub arch_offset : List ℕ → ℕ → ℕ
arch_offset file i = 8 + arch_size (kind_of file) * i

-- the offset of the end of the table
abbrev pub table_end : List ℕ → ℕ
table_end file = arch_offset file (nfat_arch file)

-- entry i of the table
unfoldable pub arch_at : List ℕ → ℕ → FatArch
arch_at file i = arch_of (kind_of file) (drop (arch_offset file i) file)
