use Rattle.std.proofs.Common.{refl}
use Rattle.std.specs.Iterator.Adapters.{take_count, take_source}
use Rattle.macho_image.specs.SectionViews.{section_view}
use Rattle.macho_symbols.proofs.PlaceLemmas.{place_added, places_all}
use Rattle.macho_symbols.proofs.section_places.collect_places.Goals as goal

pub loop-section-preserved : goal.loop-section-preserved
loop-section-preserved c =
    let before = c.loop-section.section-iterator in
    let after = c.next.new.self in
    place_added _ c.loop-section.places.items c.push.new.self.items c.in-Some.section.offset (take_count before)
    (take_count after) (section_view c.in-Some.section) (take_source before) (take_source after)
    c.loop-section.invariant c.in-Some.ensures.steps.1 c.in-Some.ensures.steps.0 refl c.in_ok-push.ensures.items

pub returns : goal.returns
returns c =
    let at_end = c.loop-section.section-iterator in
    record {
      each = c.sections.ensures.each;
      all = places_all _ c.loop-section.places.items (take_count at_end) (take_source at_end) c.loop-section.invariant (λ l. (c.in-None.ensures.steps l).0);
    }
