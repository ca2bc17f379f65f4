-- The kind of a file by its first four bytes (mach-o/fat.h, mach-o/loader.h).
use Rattle.std.specs.Prelude.{ℕ, Bool, true, false, List, [], ◌∷◌, nat_eq, if◌then◌else◌}
use Rattle.std.specs.List.{starts_with}
use Rattle.fat_slices.specs.declared.file_kind.FileKind.{FileKind}
use Rattle.fat_slices.specs.declared.file_kind.FileKind.TheVariants.{Thin, Universal, Universal64, Other}

-- FAT_MAGIC (0xcafebabe), as the first bytes of a big-endian header
abbrev pub fat_magic : List ℕ
fat_magic = 0xca ∷ 0xfe ∷ 0xba ∷ 0xbe ∷ []

-- FAT_MAGIC_64 (0xcafebabf), as the first bytes of a big-endian header
abbrev pub fat_magic_64 : List ℕ
fat_magic_64 = 0xca ∷ 0xfe ∷ 0xba ∷ 0xbf ∷ []

-- MH_MAGIC_64 (0xfeedfacf), as the first bytes of a little-endian image
abbrev pub mh_magic_64 : List ℕ
mh_magic_64 = 0xcf ∷ 0xfa ∷ 0xed ∷ 0xfe ∷ []

-- the kind of a file, by its magic
unfoldable pub kind_of : List ℕ → FileKind
kind_of file =
    if starts_with nat_eq file fat_magic then Universal
    else if starts_with nat_eq file fat_magic_64 then Universal64
    else if starts_with nat_eq file mh_magic_64 then Thin
    else Other

-- whether a file of this kind begins with a fat_header
abbrev pub is_fat : FileKind → Bool
is_fat Thin = false
is_fat Universal = true
is_fat Universal64 = true
is_fat Other = false
