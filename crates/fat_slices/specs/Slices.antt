-- The slices of a universal file (mach-o/fat.h).
use Rattle.std.specs.Prelude.{ℕ, List, map, take, drop}
use Rattle.std.specs.List.{range_with_len}
use Rattle.fat_slices.specs.Layout.{nfat_arch, arch_at}
use Rattle.fat_slices.specs.declared.fat_arch.FatArch.{FatArch}

-- the part of a file by an entry: its `size` bytes from `offset`
abbrev pub slice_part : List ℕ → FatArch → List ℕ
slice_part file arch = take arch.size (drop arch.offset file)

-- the part of each entry, in the order of the table; laws.slice_places describes them
unfoldable pub slices : List ℕ → List (List ℕ)
slices file = map (λ i. slice_part file (arch_at file i)) (range_with_len 0 (nfat_arch file))
