use Rattle.macho_image.proofs.SectionPlaces.{length-sections_in, section_in-at}
use Rattle.macho_image.proofs.laws.section_places.Goals as goal

pub returns : goal.returns
returns c = record { number = length-sections_in; places = section_in-at }
