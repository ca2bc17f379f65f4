use Rattle.std.proofs.Common.{◌≡◌, ◌++◌, flat_map, take}
use Rattle.macho_image.specs.SectionViews.{section_view}
use Rattle.table_symbols.specs.Table.{names_of, section_bytes}
use Rattle.table_symbols.proofs.text.push_sections.Given as goal

abbrev pub invariant-loop-section : goal.invariant-loop-section
invariant-loop-section l =
    l.text.items ≡ l.fn.text.items ++ flat_map (λ s. section_bytes (names_of (section_view s))) (take l.section-index l.sections)
