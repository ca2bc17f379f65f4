-- The DWARF sections of an image (mach-o/loader.h; DWARF 5, appendix B). A section's name is cut to 16 bytes.
use Rattle.std.specs.Prelude.{ℕ, List, [], ◌+◌, ◌&&◌, Bool, codes, drop, take, nat_eq}
use Rattle.std.specs.List.{find}
use Rattle.std.specs.Option.{option_map_or}
use Rattle.std.specs.Cmp.Lexicographic.{pointwise}
use Rattle.dwarf_encoding.specs.LittleEndian.{u32_le_at}
use Rattle.macho_image.specs.Sections.{SectionRecord, sections}

-- the section has this name, in the segment __DWARF
abbrev pub is_named : List ℕ → SectionRecord → Bool
is_named name section = pointwise nat_eq section.segment (codes "__DWARF") && pointwise nat_eq section.section name

-- the bytes of a section: section_64.offset, at byte 48, is the offset of its first byte in the image; a section past
-- the end of the image is empty
abbrev pub section_bytes : List ℕ → SectionRecord → List ℕ
section_bytes image section = take section.size (drop (u32_le_at image (section.offset + 48)) image)

-- the bytes of the first section with this name; empty if there is none
unfoldable pub debug_section : List ℕ → List ℕ → List ℕ
debug_section image name =
    option_map_or (λ section. section_bytes image section) (find (is_named name) (sections image)) []

-- the sections that are read
pub record DebugSectionsRecord : Type 0 where
  pub debug_info : List ℕ
  pub debug_abbrev : List ℕ
  pub debug_line : List ℕ
  pub debug_str : List ℕ
  pub debug_line_str : List ℕ
  pub debug_str_offs : List ℕ
  pub debug_addr : List ℕ
  pub debug_aranges : List ℕ
  pub debug_ranges : List ℕ
  pub debug_rnglists : List ℕ

abbrev pub debug_sections : List ℕ → DebugSectionsRecord
debug_sections image =
    record {
      debug_info = debug_section image (codes "__debug_info");
      debug_abbrev = debug_section image (codes "__debug_abbrev");
      debug_line = debug_section image (codes "__debug_line");
      debug_str = debug_section image (codes "__debug_str");
      debug_line_str = debug_section image (codes "__debug_line_str");
      debug_str_offs = debug_section image (codes "__debug_str_offs");
      debug_addr = debug_section image (codes "__debug_addr");
      debug_aranges = debug_section image (codes "__debug_aranges");
      debug_ranges = debug_section image (codes "__debug_ranges");
      debug_rnglists = debug_section image (codes "__debug_rnglists");
    }
