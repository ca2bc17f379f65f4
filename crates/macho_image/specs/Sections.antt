-- The sections of an image, and the address at which its text is to be loaded (mach-o/loader.h).
use Rattle.std.specs.Prelude.{ℕ, zero, suc, Bool, List, [], ◌∷◌, ◌≡◌, ◌≤◌, ◌&&◌, ◌+◌, drop, length}
use Rattle.std.specs.Prelude.{Option, None, codes, slice_get, nat_eq, nat_lt, nat_le}
use Rattle.std.specs.List.{find, flat_map}
use Rattle.std.specs.Option.{option_map}
use Rattle.std.specs.Cmp.Lexicographic.{pointwise}
use Rattle.macho_image.specs.Layout.{u64_le_at, name_at}
use Rattle.macho_image.specs.Commands.{SegmentRecord, nsects}
use Rattle.macho_image.specs.Kinds.{segments}

-- section_64: its offset in the image, in bytes, and segname, sectname, addr and size
pub record SectionRecord : Type 0 where
  pub offset : ℕ
  pub segment : List ℕ
  pub section : List ℕ
  pub addr : ℕ
  pub size : ℕ

-- the section_64 at the beginning of the bytes, which are at an offset of the image
unfoldable pub section_record : ℕ → List ℕ → SectionRecord
section_record offset bytes =
    record {
      offset = offset;
      segment = name_at bytes 16;
      section = name_at bytes 0;
      addr = u64_le_at bytes 32;
      size = u64_le_at bytes 40;
    }

-- the section_64 at an offset of the image
unfoldable pub section_at : List ℕ → ℕ → SectionRecord
section_at image offset = section_record offset (drop offset image)

-- a section is in an image, at its own offset
pub record IsSectionOf (image : List ℕ) (section : SectionRecord) : Type 0 where
  pub stands : section_at image section.offset ≡ section
  pub room : section.offset + 80 ≤ length image

-- `count` consecutive section_64, 80 bytes each
unfoldable pub section_records : ℕ → ℕ → List ℕ → List SectionRecord
section_records zero offset bytes = []
section_records (suc count) offset bytes =
    section_record offset bytes ∷ section_records count (offset + 80) (drop 80 bytes)

-- the sections of a segment directly follow its segment_command_64; laws.section_places states the offset of each
unfoldable pub sections_in : SegmentRecord → List SectionRecord
sections_in segment = section_records (nsects segment.bytes) (segment.offset + 72) (drop 72 segment.bytes)

-- the sections of an image, in the order of its load commands; laws.are_at_offsets says that each is at its own offset
unfoldable pub sections : List ℕ → List SectionRecord
sections image = flat_map sections_in (segments image)

-- the section with a number, as in nlist_64.n_sect: the first is 1
abbrev pub section_of : List ℕ → ℕ → Option SectionRecord
section_of image zero = None
section_of image (suc i) = slice_get (sections image) i

-- whether an address is in a section, whose end may pass 2 ^ 64
abbrev pub is_inside : ℕ → SectionRecord → Bool
is_inside address section = nat_le section.addr address && nat_lt address (section.addr + section.size)

-- segment_command_64.segname is SEG_TEXT, "__TEXT"
unfoldable pub is_text : SegmentRecord → Bool
is_text segment = pointwise nat_eq (name_at segment.bytes 8) (codes "__TEXT")

-- segment_command_64.vmaddr of the first segment with that name
abbrev pub text_base_of : List ℕ → Option ℕ
text_base_of image = option_map (λ segment. u64_le_at segment.bytes 24) (find is_text (segments image))
