-- The kind of a refused file, by its first bytes.
use Rattle.std.specs.Prelude.{ℕ, Bool, List, [], ◌∷◌, ◌==◌, ◌||◌, ◌&&◌, codes, find, if◌then◌else◌}
use Rattle.std.specs.Prelude.{nat_eq, nat_lt, option_map, slice_index, Option, Some, None}
use Rattle.std.specs.Int.{from_be_bytes, w32}
use Rattle.std.specs.List.{starts_with}
use Rattle.archive_records.specs.Kind.{magic_of}
use Rattle.archive_records.specs.declared.format.Format.TheVariants as format
use Rattle.cli_standard_error.specs.declared.file_kinds.FileKind.{FileKind}
use Rattle.cli_standard_error.specs.declared.file_kinds.FileKind.TheVariants as kind

-- The first bytes of files of each kind: MH_MAGIC and MH_MAGIC_64 in both byte orders (loader.h), FAT_MAGIC and
-- FAT_MAGIC_64 (fat.h), the identification of an ELF file (System V ABI, e_ident), a local file header of zip
-- (APPNOTE 4.3.7), gzip (RFC 1952, 2.3.1), and a byte order mark of UTF-8.
abbrev pub beginnings : List (List ℕ × FileKind)
beginnings =
    (codes "MSYMIDX2", kind.Index)
    ∷ (codes "MSYMIDX1", kind.EarlierIndex)
    ∷ (0xcf ∷ 0xfa ∷ 0xed ∷ 0xfe ∷ [], kind.MachO)
    ∷ (0xce ∷ 0xfa ∷ 0xed ∷ 0xfe ∷ [], kind.MachO)
    ∷ (0xfe ∷ 0xed ∷ 0xfa ∷ 0xcf ∷ [], kind.MachO)
    ∷ (0xfe ∷ 0xed ∷ 0xfa ∷ 0xce ∷ [], kind.MachO)
    ∷ (0xca ∷ 0xfe ∷ 0xba ∷ 0xbe ∷ [], kind.Universal)
    ∷ (0xca ∷ 0xfe ∷ 0xba ∷ 0xbf ∷ [], kind.Universal)
    ∷ (codes "\u{7f}ELF", kind.Elf)
    ∷ (0x50 ∷ 0x4b ∷ 0x03 ∷ 0x04 ∷ [], kind.Zip)
    ∷ (0x1f ∷ 0x8b ∷ [], kind.Gzip)
    ∷ (0xef ∷ 0xbb ∷ 0xbf ∷ [], kind.Marked)
    ∷ []

-- the kind of the first row whose bytes these bytes begin with
abbrev pub kind_among : List ℕ → List (List ℕ × FileKind) → Option FileKind
kind_among bytes rows = option_map (λ row. row.1) (find (λ row. starts_with nat_eq bytes row.0) rows)

abbrev pub other_kind : List ℕ → Option FileKind
other_kind bytes = kind_among bytes beginnings

-- the kind, if it is one of symarch's own files
abbrev pub own_kind : List ℕ → Option FileKind
own_kind bytes =
    if starts_with nat_eq bytes (magic_of format.Archive) || starts_with nat_eq bytes (magic_of format.OldArchive)
    then Some kind.Archive
    else (if starts_with nat_eq bytes (magic_of format.Operations) then Some kind.Operations
    else (if starts_with nat_eq bytes (magic_of format.Summary) then Some kind.Summary else None))

abbrev pub is_class : List ℕ → Bool
is_class bytes =
    (slice_index bytes 3 == 0xbe) && nat_lt 42 (from_be_bytes w32
    (slice_index bytes 4 ∷ slice_index bytes 5 ∷ slice_index bytes 6 ∷ slice_index bytes 7 ∷ []))

-- A file with the first bytes of a universal file may be a Java class file: where a universal file has its number of
-- slices, this one has its minor and major version, of which the least is 45 (The Java Virtual Machine Specification,
-- 4.1).
abbrev classed : List ℕ → Option FileKind → Option FileKind
classed bytes (Some kind.Universal) = if is_class bytes then Some kind.JavaClass else Some kind.Universal
classed bytes found = found

abbrev owned : Option FileKind → Option FileKind → Option FileKind
owned (Some found) other = Some found
owned None other = other

abbrev pub kind_of : List ℕ → Option FileKind
kind_of bytes = owned (own_kind bytes) (classed bytes (other_kind bytes))
