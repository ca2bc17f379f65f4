-- Sections of texts in the code, as the definitions have them.
use Rattle.dwarf_encoding.specs.TextSections.{TextSectionsRecord}
use Rattle.dwarf_encoding.specs.declared.text_sections.TextSections.{TextSections}

-- the sections, without their addresses in memory
abbrev pub text_sections_view : TextSections → TextSectionsRecord
text_sections_view s =
    record {
      debug_str = s.debug_str.now;
      debug_line_str = s.debug_line_str.now;
      debug_str_offs = s.debug_str_offs.now;
      str_offsets_base = s.str_offsets_base;
    }
