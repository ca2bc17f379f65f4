-- The tables of __debug_abbrev (DWARF 5, section 7.5.3), which follow one another.
use Rattle.std.specs.Prelude.{ℕ, zero, suc, List, [], ◌∷◌, ◌-◌, ◌==◌, ◌&&◌, Bool, length, if◌then◌else◌, Option, Some}
use Rattle.std.specs.Prelude.{None}
use Rattle.std.specs.Option.{option_map, option_map_or, option_and_then}
use Rattle.dwarf_encoding.specs.Leb128.{unsigned_leb128_at}
use Rattle.dwarf_entries.specs.Specifications.{ShapeRecord, shape_at}

-- a declaration, without its code
pub record DeclarationRecord : Type 0 where
  pub tag : ℕ
  pub has_children : Bool
  pub shape : ShapeRecord

-- one byte
abbrev pub byte_at : List ℕ → Option (ℕ × List ℕ)
byte_at [] = None
byte_at (b ∷ bs) = Some (b, bs)

-- a declaration after its code: its tag, whether it has children, and its specifications; DW_CHILDREN_yes is 1
unfoldable pub declaration_body_at : List ℕ → Option (DeclarationRecord × List ℕ)
declaration_body_at bytes =
    option_and_then
    (λ x. option_and_then
    (λ y. option_map
    (λ z. (record { tag = x.0; has_children = y.0 == 1; shape = z.0 }, z.1))
    (shape_at y.1))
    (byte_at x.1))
    (unsigned_leb128_at bytes)

-- a code and its declaration; the code 0 ends a table
unfoldable pub declaration_at : List ℕ → Option (Option (ℕ × DeclarationRecord) × List ℕ)
declaration_at bytes =
    option_and_then
    (λ x. if x.0 == 0 then Some (None, x.1)
    else option_map (λ y. (Some (x.0, y.0), y.1)) (declaration_body_at x.1))
    (unsigned_leb128_at bytes)

-- the declarations of the bytes, each with the offset of its table and its code; at most `count` declarations and ends
-- of tables. The bytes are the last ones of a section of `size` bytes, and begin in the table at the offset `table`
unfoldable pub declarations_within : ℕ → ℕ → ℕ → List ℕ → List ((ℕ × ℕ) × DeclarationRecord)
declarations_within zero size table bytes = []
declarations_within (suc count) size table bytes =
    option_map_or
    (λ x. option_map_or
    (λ d. ((table, d.0), d.1) ∷ declarations_within count size table x.1)
    x.0 (declarations_within count size (size - length x.1) x.1))
    (declaration_at bytes) []

-- the declarations of the bytes, up to the first that cannot be read
unfoldable pub declarations_from : ℕ → ℕ → List ℕ → List ((ℕ × ℕ) × DeclarationRecord)
declarations_from size table bytes = declarations_within (length bytes) size table bytes

-- the first declaration with an offset of a table and a code
abbrev pub declared : ℕ → ℕ → List ((ℕ × ℕ) × DeclarationRecord) → Option DeclarationRecord
declared table code [] = None
declared table code (d ∷ ds) =
    if (table == d.0.0) && (code == d.0.1) then Some d.1 else declared table code ds

-- the declaration with a code in the table at an offset of the section
abbrev pub declaration_of : List ℕ → ℕ → ℕ → Option DeclarationRecord
declaration_of section table code = declared table code (declarations_from (length section) 0 section)
