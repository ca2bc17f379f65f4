use Rattle.std.specs.Iterator.Adapters.{take_count, take_source}
use Rattle.macho_symbols.proofs.SectionLemmas.{section_added, sections_all}
use Rattle.macho_symbols.proofs.section_numbers.collect_sections.Goals as goal

pub loop-section-preserved : goal.loop-section-preserved
loop-section-preserved c =
    let before = c.loop-section.section-iterator in
    let after = c.next.new.self in
    section_added _ c.loop-section.all.items c.push.new.self.items c.in-Some.section (take_count before)
    (take_count after) (take_source before) (take_source after)
    c.loop-section.invariant c.in-Some.ensures.steps.1 c.in-Some.ensures.steps.0 c.in_ok-push.ensures.items

pub returns : goal.returns
returns c =
    let at_end = c.loop-section.section-iterator in
    sections_all _ c.loop-section.all.items (take_count at_end) (take_source at_end) c.loop-section.invariant (λ l. (c.in-None.ensures.steps l).0)
