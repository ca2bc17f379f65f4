-- A section in the code, as the definitions have it.
use Rattle.macho_image.specs.Sections.{SectionRecord}
use Rattle.macho_image.specs.declared.section.Section.{Section}

-- a section, without the addresses of its names in memory
abbrev pub section_view : Section → SectionRecord
section_view s =
    record { offset = s.offset; segment = s.segment.now; section = s.section.now; addr = s.addr; size = s.size }
