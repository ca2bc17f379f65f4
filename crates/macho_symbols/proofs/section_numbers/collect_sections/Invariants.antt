use Rattle.std.proofs.Common.{◌≡◌, ◌++◌, map, take}
use Rattle.std.specs.Iterator.Adapters.{take_count, take_source}
use Rattle.macho_image.specs.Sections.{sections}
use Rattle.macho_image.specs.SectionViews.{section_view}
use Rattle.macho_symbols.proofs.section_numbers.collect_sections.Given as goal

abbrev pub invariant-loop-section : goal.invariant-loop-section
invariant-loop-section l =
    map section_view l.all.items ++ take (take_count l.section-iterator) (take_source l.section-iterator) ≡ take 255 (sections l.image)
