use Rattle.std.proofs.Common.{◌≡◌}
use Rattle.std.specs.List.{AllByRecursion}
use Rattle.macho_image.specs.Sections.{IsSectionOf}
use Rattle.dwarf_source_frames.specs.DebugSections.{debug_section}
use Rattle.dwarf_source_frames.proofs.SectionLemmas.{bytes_of}
use Rattle.dwarf_source_frames.proofs.debug_sections.debug_section.Given as goal

abbrev pub invariant-loop-section : goal.invariant-loop-section
invariant-loop-section l = record {
  can : (goal.iterator-loop-section).can_next l.section-iterator;
  ends : (goal.iterator-loop-section).is_finite l.section-iterator;
  each : AllByRecursion (IsSectionOf l.image) l.section-iterator;
  found : bytes_of l.image l.name l.section-iterator ≡ debug_section l.image l.name;
}
