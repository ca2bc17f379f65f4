-- The offsets of the sections of an image, by number.
use Rattle.std.specs.Prelude.{ℕ, List, map, ◌≡◌, take}
use Rattle.std.specs.List.{AllByRecursion}
use Rattle.macho_image.specs.Sections.{SectionRecord, IsSectionOf, sections}

-- the offset of a section
abbrev pub place_of : SectionRecord → ℕ
place_of section = section.offset

-- these are the offsets of the sections that a symbol can name: nlist_64.n_sect is a byte and counts from 1; each
-- section of the image is at its own offset
pub record ArePlaces (image places : List ℕ) : Type 0 where
  pub each : AllByRecursion (IsSectionOf image) (sections image)
  pub all : places ≡ map place_of (take 255 (sections image))
