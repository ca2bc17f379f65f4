-- The table of a slice, and its bytes: a head of 48 bytes, the names of its sections, its rows, its strings, and its
-- lines, which may be any bytes here.
use Rattle.std.specs.Prelude.{◌≡◌, ◌<◌, ◌≤◌, ◌+◌, ◌*◌, ◌^◌, ◌-◌, ℕ, zero, suc, List, [], ◌∷◌, ◌++◌, length}
use Rattle.std.specs.Prelude.{map, take, flat_map, All, Option, Some, None}
use Rattle.std.specs.Int.{w64, to_be_bytes}
use Rattle.macho_image.specs.Sections.{SectionRecord, sections, text_base_of}
use Rattle.macho_symbols.specs.Symbols.{strings_of}
use Rattle.table_symbols.specs.Rows.{AreRows, rows_bytes}
use Rattle.macho_symbols.specs.Steps.{AreSteps}
use Rattle.macho_symbols.specs.declared.row.Row.{Row}

-- the names of a section: segname and sectname
pub record SectionNames : Type 0 where
  pub segment : List ℕ
  pub section : List ℕ

-- the names of a section of an image
abbrev pub names_of : SectionRecord → SectionNames
names_of s = record { segment = s.segment; section = s.section }

-- the parts of a table: the vmaddr of the first segment named __TEXT, the names of the sections, the rows, the strings
-- and the bytes of the lines
pub record TableParts : Type 0 where
  pub base : Option ℕ
  pub names : List SectionNames
  pub rows : List Row
  pub strings : List ℕ
  pub lines : List ℕ

-- `n` zeros
unfoldable pub zeros : ℕ → List ℕ
zeros zero = []
zeros (suc n) = 0 ∷ zeros n

-- a name of a section in 16 bytes, padded with zeros
abbrev pub padded : List ℕ → List ℕ
padded name = name ++ zeros (16 - length name)

-- a section in 32 bytes
abbrev pub section_bytes : SectionNames → List ℕ
section_bytes s = padded s.segment ++ padded s.section

-- 1 if there is a vmaddr of __TEXT, else 0; and the vmaddr, or 0
abbrev pub base_flag : Option ℕ → ℕ
base_flag None = 0
base_flag (Some base) = 1

abbrev pub base_or_zero : Option ℕ → ℕ
base_or_zero None = 0
base_or_zero (Some base) = base

-- the head: six eight-byte numbers, big-endian
unfoldable pub head_bytes : TableParts → List ℕ
head_bytes t =
    to_be_bytes w64 (base_flag t.base) ++ (to_be_bytes w64 (base_or_zero t.base)
    ++ (to_be_bytes w64 (length t.names) ++ (to_be_bytes w64 (length t.rows)
    ++ (to_be_bytes w64 (length t.strings) ++ to_be_bytes w64 (length t.lines)))))

-- the bytes of a table
unfoldable pub table_bytes : TableParts → List ℕ
table_bytes t = head_bytes t ++ (flat_map section_bytes t.names ++ (rows_bytes t.rows ++ (t.strings ++ t.lines)))

-- the numbers fit their sizes, and names have at most 16 bytes
pub record FitsTable (t : TableParts) : Type 0 where
  pub base : base_or_zero t.base < 2 ^ 64
  pub names : All (λ s. (length s.segment ≤ 16) × (length s.section ≤ 16)) t.names
  pub rows : AreRows t.rows
  pub size : 48 + 32 * length t.names + 21 * length t.rows + length t.strings + length t.lines < 2 ^ 64

-- the table of an image; its lines may be any bytes
pub record IsTableOf (image : List ℕ) (t : TableParts) : Type 0 where
  pub base : t.base ≡ text_base_of image
  pub names : t.names ≡ map names_of (take 255 (sections image))
  pub rows : AreSteps image t.rows
  pub strings : t.strings ≡ strings_of image

-- these bytes are the table of an image, whose parts fit, with lines of any kind
abbrev pub IsTableText : List ℕ → List ℕ → Type 0
IsTableText image bytes = (t : TableParts) × IsTableOf image t × FitsTable t × (bytes ≡ table_bytes t)

-- these bytes are the table of an image, whose parts fit, with these lines
abbrev pub IsTableWith : List ℕ → List ℕ → List ℕ → Type 0
IsTableWith image lines bytes =
    (t : TableParts) × IsTableOf image t × FitsTable t × (bytes ≡ table_bytes t) × (t.lines ≡ lines)
