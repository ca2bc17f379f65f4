use Rattle.dwarf_source_frames.proofs.debug_info.DebugInfo.+name_within.Given as goal

abbrev pub decreases-name_within : goal.decreases-name_within
decreases-name_within l = l.count
