use Rattle.std.proofs.Common.{◌≡◌, ◌++◌, flat_map, take}
use Rattle.macho_image.specs.SectionViews.{section_view}
use Rattle.macho_symbols.specs.InnerCandidates.{ends_below}
use Rattle.macho_symbols.proofs.turns.push_sections.Given as goal

abbrev pub invariant-loop-section : goal.invariant-loop-section
invariant-loop-section l =
    l.turns.items ≡ l.fn.turns.items ++ flat_map (λ s. ends_below (section_view s)) (take l.section-index l.sections)
