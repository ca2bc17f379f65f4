-- The attribute specifications of a declaration (DWARF 5, section 7.5.3).
use Rattle.std.specs.Prelude.{ℕ, List, [], ◌∷◌, ◌++◌, ◌+◌, ◌==◌, ◌&&◌, if◌then◌else◌, Option, Some, None}
use Rattle.std.specs.Option.{option_map, option_and_then}
use Rattle.dwarf_encoding.specs.FormNumbers.{DW_FORM_flag_present, DW_FORM_implicit_const}
use Rattle.dwarf_encoding.specs.Forms.{fixed_size, value_at}
use Rattle.dwarf_encoding.specs.Leb128.{unsigned_leb128_at, signed_leb128_at}
use Rattle.dwarf_encoding.specs.Sequences.{ended}
use Rattle.dwarf_encoding.specs.Values.{Constant}
use Rattle.dwarf_entries.specs.Attributes.{AttributesRecord, no_attributes, with_attribute}
use Rattle.dwarf_entries.specs.declared.specification.Specification.{Specification}

-- a specification: an attribute, a form, and a number after DW_FORM_implicit_const; two zeros end the specifications
unfoldable pub specification_at : List ℕ → Option (Option Specification × List ℕ)
specification_at bytes =
    option_and_then
    (λ x. option_and_then
    (λ y. if (x.0 == 0) && (y.0 == 0) then Some (None, y.1)
    else if y.0 == DW_FORM_implicit_const
    then option_map (λ z. (Some (record { attribute = x.0; form = y.0; implicit = z.0 }), z.1)) (signed_leb128_at y.1)
    else Some (Some (record { attribute = x.0; form = y.0; implicit = 0 }), y.1))
    (unsigned_leb128_at x.1))
    (unsigned_leb128_at bytes)

-- the parts of a declaration's specifications that an entry needs: the values that are stored in the declaration, and
-- the attribute and the form of each value that is stored in the entry, in order
pub record ShapeRecord : Type 0 where
  pub constants : AttributesRecord
  pub pairs : List (ℕ × ℕ)

abbrev pub empty_shape : ShapeRecord
empty_shape = record { constants = no_attributes; pairs = [] }

-- one more specification: the value of DW_FORM_implicit_const is stored in the declaration, and so counts before those
-- of the entry; a value of DW_FORM_flag_present has no bytes and is ignored here
abbrev pub with_specification : ShapeRecord → Specification → ShapeRecord
with_specification shape s =
    if s.form == DW_FORM_implicit_const
    then record shape { constants = with_attribute shape.constants s.attribute (Constant s.implicit) }
    else if s.form == DW_FORM_flag_present then shape
    else record shape { pairs = shape.pairs ++ (s.attribute, s.form) ∷ [] }

-- more specifications, in order
unfoldable pub shape_from : ShapeRecord → List Specification → ShapeRecord
shape_from shape [] = shape
shape_from shape (s ∷ ss) = shape_from (with_specification shape s) ss

-- a shape with the specifications before the two zeros
abbrev pub shaped : ShapeRecord → Option (List Specification × List ℕ) → Option (ShapeRecord × List ℕ)
shaped shape None = None
shaped shape (Some y) = Some (shape_from shape y.0, y.1)

-- the shape of the specifications that begin the bytes, and the bytes after their two zeros
abbrev pub shape_at : List ℕ → Option (ShapeRecord × List ℕ)
shape_at bytes = shaped empty_shape (ended specification_at bytes)

-- the size of the values of pairs, if each form has one size in the versions 3 to 5
unfoldable pub total_size : List (ℕ × ℕ) → Option ℕ
total_size [] = Some 0
total_size (pair ∷ pairs) =
    option_and_then (λ n. option_map (λ m. n + m) (total_size pairs)) (fixed_size 3 pair.1)

-- the bytes after the values of pairs
unfoldable pub values_after : ℕ → List (ℕ × ℕ) → List ℕ → Option (List ℕ)
values_after version [] bytes = Some bytes
values_after version (pair ∷ pairs) bytes =
    option_and_then (λ x. values_after version pairs x.1) (value_at version pair.1 0 bytes)
