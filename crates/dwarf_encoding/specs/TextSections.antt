-- The texts that attribute values name (DWARF 5, section 7.5.5, class string).
use Rattle.std.specs.Prelude.{ℕ, List, ◌+◌, ◌*◌, nat_le, length, if◌then◌else◌, Option, Some, None}
use Rattle.std.specs.Option.{option_and_then}
use Rattle.dwarf_encoding.specs.LittleEndian.{u32_le_at}
use Rattle.dwarf_encoding.specs.Text.{text_in}
use Rattle.dwarf_encoding.specs.Values.{ValueRecord, InlineString, StringOffset, LineStringOffset, StringIndex}

-- the sections that store texts, and the offset of a unit's part of __debug_str_offs
pub record TextSectionsRecord : Type 0 where
  pub debug_str : List ℕ
  pub debug_line_str : List ℕ
  pub debug_str_offs : List ℕ
  pub str_offsets_base : ℕ

-- the four-byte number at an index of a unit's part of __debug_str_offs
abbrev pub indexed_offset : List ℕ → ℕ → ℕ → Option ℕ
indexed_offset debug_str_offs base index =
    if nat_le (base + 4 * index + 4) (length debug_str_offs)
    then Some (u32_le_at debug_str_offs (base + 4 * index))
    else None

-- the text that a value names
abbrev pub text_of : TextSectionsRecord → ValueRecord → Option (List ℕ)
text_of sections (InlineString text) = Some text
text_of sections (StringOffset offset) = text_in sections.debug_str offset
text_of sections (LineStringOffset offset) = text_in sections.debug_line_str offset
text_of sections (StringIndex index) =
    option_and_then (λ offset. text_in sections.debug_str offset)
    (indexed_offset sections.debug_str_offs sections.str_offsets_base index)
text_of sections _ = None
