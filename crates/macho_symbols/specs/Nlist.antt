-- nlist_64: an entry of the symbol table, sixteen bytes (mach-o/nlist.h).
use Rattle.std.specs.Prelude.{ℕ, List, ◌≡◌, length, slice_index}
use Rattle.macho_image.specs.Layout.{u32_le_at, u64_le_at}

-- the bytes of an entry
abbrev pub IsEntry : List ℕ → Type 0
IsEntry entry = length entry ≡ 16

-- nlist_64.n_strx: the offset of the name in the string table
abbrev pub n_strx : List ℕ → ℕ
n_strx entry = u32_le_at entry 0

-- nlist_64.n_type: the kind of the entry, in bits
abbrev pub n_type : List ℕ → ℕ
n_type entry = slice_index entry 4

-- nlist_64.n_sect: the number of the section
abbrev pub n_sect : List ℕ → ℕ
n_sect entry = slice_index entry 5

-- nlist_64.n_value: the address
abbrev pub n_value : List ℕ → ℕ
n_value entry = u64_le_at entry 8
