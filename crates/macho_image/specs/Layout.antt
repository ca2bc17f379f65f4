-- The offsets of the numbers and names in a thin 64-bit image (mach-o/loader.h). Each number is little-endian.
use Rattle.std.specs.Prelude.{ℕ, List, drop, take, ◌∷◌, [], ◌==◌}
use Rattle.std.specs.List.{before_first}
use Rattle.byteorder.specs.Endian.{little_number}

-- uint32_t: the number in the four bytes from an offset
unfoldable pub u32_le_at : List ℕ → ℕ → ℕ
u32_le_at bytes offset = little_number 4 (drop offset bytes)

-- uint64_t: the number in the eight bytes from an offset
unfoldable pub u64_le_at : List ℕ → ℕ → ℕ
u64_le_at bytes offset = little_number 8 (drop offset bytes)

-- char[16]: the bytes before the first NUL of the sixteen bytes from an offset, or all sixteen if there is none
abbrev pub name_at : List ℕ → ℕ → List ℕ
name_at bytes offset = before_first (λ b. b == 0) (take 16 (drop offset bytes))

-- MH_MAGIC_64 (0xfeedfacf), the first four bytes of a little-endian image
abbrev pub magic : List ℕ
magic = 0xcf ∷ 0xfa ∷ 0xed ∷ 0xfe ∷ []

-- mach_header_64.cputype
abbrev pub cputype : List ℕ → ℕ
cputype bytes = u32_le_at bytes 4

-- mach_header_64.cpusubtype
abbrev pub cpusubtype : List ℕ → ℕ
cpusubtype bytes = u32_le_at bytes 8

-- mach_header_64.filetype
abbrev pub filetype : List ℕ → ℕ
filetype bytes = u32_le_at bytes 12

-- mach_header_64.ncmds: the number of load commands
abbrev pub ncmds : List ℕ → ℕ
ncmds bytes = u32_le_at bytes 16

-- mach_header_64.sizeofcmds: the size of all load commands
abbrev pub sizeofcmds : List ℕ → ℕ
sizeofcmds bytes = u32_le_at bytes 20

-- the load commands directly follow the header, which has 32 bytes
abbrev pub command_bytes : List ℕ → List ℕ
command_bytes bytes = take (sizeofcmds bytes) (drop 32 bytes)
