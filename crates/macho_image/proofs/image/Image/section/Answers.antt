use Rattle.std.proofs.Common.{◌≡◌, ◌∙◌, arith, ◌-◌, slice_get}
use Rattle.std.specs.Option.{option_map}
use Rattle.std.proofs.lemmas.Iterator.Consumers.{nth_from_yields_List, YieldsList-from_first}
use Rattle.macho_image.specs.Sections.{sections}
use Rattle.macho_image.specs.SectionViews.{section_view}
use Rattle.macho_image.proofs.SectionLemmas.{section_of-at}
use Rattle.macho_image.proofs.image.Image.section.Goals as goal

pub returns : goal.returns
returns c =
    let road = YieldsList-from_first section_view (λ s. s) (sections c.args.self.now) c.sections.ensures.all in
    let given : option_map section_view c.nth.result ≡ slice_get (sections c.args.self.now) (c.args.number - 1) =
    nth_from_yields_List c.nth.result c.nth.new.self (c.args.number - 1) c.nth.ensures.ran road in
    given ∙ section_of-at c.args.self.now c.args.number (omega arith)
