use Rattle.std.proofs.Common.{◌≡◌, ◌++◌, map, take}
use Rattle.std.specs.Iterator.Adapters.{take_count, take_source}
use Rattle.macho_image.specs.Sections.{sections}
use Rattle.macho_symbols.specs.SectionPlaces.{place_of}
use Rattle.macho_symbols.proofs.section_places.collect_places.Given as goal

abbrev pub invariant-loop-section : goal.invariant-loop-section
invariant-loop-section l =
    l.places.items ++ map place_of (take (take_count l.section-iterator) (take_source l.section-iterator)) ≡ map place_of (take 255 (sections l.image))
