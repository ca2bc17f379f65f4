-- Steps over the sections of a segment.
use Rattle.std.proofs.Common.{◌≡◌, ℕ, zero, suc, ◌+◌, ◌-◌, ◌<◌, List, [], ◌∷◌, drop, refl, ap, arith, sub-one, slice_get}
use Rattle.macho_image.specs.Sections.{section_record, section_records, sections, section_of}

-- the first section of those that are left
pub one_section : (count offset : ℕ) (bytes : List ℕ) → 0 < count → section_records count offset bytes
    ≡ section_record offset bytes ∷ section_records (count - 1) (offset + 80) (drop 80 bytes)
unfolding section_records
one_section zero offset bytes h = absurd (omega arith)
one_section (suc count) offset bytes h = rw sub-one refl

-- none is left
pub no_section : (count offset : ℕ) (bytes : List ℕ) → count ≡ 0 → section_records count offset bytes ≡ []
unfolding section_records
no_section count offset bytes h = rw h refl

pub ruleset of_sections = (no_section, one_section)

-- a number above 0 counts from 1
pub section_of-at : (image : List ℕ) (number : ℕ) → 0 < number → slice_get (sections image) (number - 1) ≡ section_of image number
section_of-at image zero h = absurd (omega arith)
section_of-at image (suc number) h =
    let back : suc number - 1 ≡ number = omega arith in
    ap (slice_get (sections image)) back
