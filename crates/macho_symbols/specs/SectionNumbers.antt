-- The sections of an image by the numbers of n_sect.
use Rattle.std.specs.Prelude.{ℕ, List, ◌≡◌, ◌<◌, Option, None, map, slice_index_or, take}
use Rattle.std.specs.Option.{option_map}
use Rattle.macho_image.specs.Sections.{section_of, sections}
use Rattle.macho_image.specs.SectionViews.{section_view}
use Rattle.macho_image.specs.declared.section.Section.{Section}

-- the section at each number that a byte can have, or none
abbrev pub AreByNumber : List ℕ → List (Option Section) → Type 0
AreByNumber image by_number =
    (number : ℕ) → number < 256 → option_map section_view (slice_index_or by_number number None)
    ≡ section_of image number

-- these are the sections of an image that a symbol can name, from number 1 on
abbrev pub AreSectionsOf : List ℕ → List Section → Type 0
AreSectionsOf image all = map section_view all ≡ take 255 (sections image)
