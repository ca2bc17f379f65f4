-- The DWARF sections in the code, as the definitions have them.
use Rattle.dwarf_source_frames.specs.DebugSections.{DebugSectionsRecord}
use Rattle.dwarf_source_frames.specs.declared.debug_sections.DebugSections.{DebugSections}

-- the sections, without their addresses in memory
abbrev pub sections_view : DebugSections → DebugSectionsRecord
sections_view s =
    record {
      debug_info = s.debug_info.now;
      debug_abbrev = s.debug_abbrev.now;
      debug_line = s.debug_line.now;
      debug_str = s.debug_str.now;
      debug_line_str = s.debug_line_str.now;
      debug_str_offs = s.debug_str_offs.now;
      debug_addr = s.debug_addr.now;
      debug_aranges = s.debug_aranges.now;
      debug_ranges = s.debug_ranges.now;
      debug_rnglists = s.debug_rnglists.now;
    }
