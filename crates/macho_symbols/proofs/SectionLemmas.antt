-- The sections of an image by the numbers of n_sect.
use Rattle.std.proofs.Common.{◌≡◌, ℕ, zero, suc, ◌+◌, ◌-◌, ◌<◌, ◌≤◌, false, List, [], ◌∷◌, ◌++◌, length, map, take}
use Rattle.std.proofs.Common.{refl, sym, ap, ◌∙◌, arith, append_assoc, slice_index_or, slice_get}
use Rattle.std.specs.Option.{option_map, option_map_or}
use Rattle.std.proofs.lemmas.Option.{slice_get-map, slice_get-get_or, slice_get_past}
use Rattle.std.proofs.lemmas.List.{append-nil, length-map, length-take, map-append}
use Rattle.macho_image.specs.Sections.{SectionRecord, sections, is_inside}
use Rattle.macho_image.specs.SectionViews.{section_view}
use Rattle.macho_image.specs.declared.section.Section.{Section}
use Rattle.macho_symbols.specs.Symbols.{is_in_section}
use Rattle.macho_symbols.specs.SectionNumbers.{AreSectionsOf}
use Rattle.macho_symbols.proofs.PlaceLemmas.{get-take}

-- one section more, the next of those that are left
pub section_added : (all : List SectionRecord) (so_far more : List Section) (section : Section) (n m : ℕ) (before after : List SectionRecord)
    → map section_view so_far ++ take n before ≡ all → m + 1 ≡ n → before ≡ section_view section ∷ after → more ≡ so_far ++ section ∷ []
    → map section_view more ++ take m after ≡ all
section_added all so_far more section n m before after is counted step new =
    let next : n ≡ suc m = omega (arith, counted) in
    let front : take n before ≡ section_view section ∷ take m after = rw (next, step) refl in
    ap (λ xs. map section_view xs ++ take m after) new ∙ ap (λ xs. xs ++ take m after) (map-append section_view so_far (section ∷ []))
    ∙ append_assoc (map section_view so_far) (section_view section ∷ []) (take m after) ∙ ap (λ ss. map section_view so_far ++ ss) (sym front) ∙ is

-- none is left
pub sections_all : (all : List SectionRecord) (so_far : List Section) (n : ℕ) (left : List SectionRecord)
    → map section_view so_far ++ take n left ≡ all → (0 < n → left ≡ [])
    → map section_view so_far ≡ all
sections_all all so_far zero left is none = sym (append-nil (map section_view so_far)) ∙ is
sections_all all so_far (suc n) left is none =
    sym (append-nil (map section_view so_far)) ∙ ap (λ ss. map section_view so_far ++ take (suc n) ss) (sym (none (omega arith))) ∙ is

module _ (image : List ℕ) (all : List Section) (are : AreSectionsOf image all) where
  few : length all ≤ 255
  few = omega (arith, ap length are, length-map all section_view, length-take 255 (sections image))

  same_at : (i : ℕ) → i < 255 → slice_get (sections image) i ≡ option_map section_view (slice_get all i)
  same_at i l = sym (get-take 255 (sections image) i l) ∙ ap (λ xs. slice_get xs i) (sym are) ∙ slice_get-map section_view all i

  -- an address lies in the section of a number where it lies in the one at that place
  pub inside_at : (number address : ℕ) (d : Section) → 0 < number → number ≤ length all
      → is_in_section image number address ≡ is_inside address (section_view (slice_index_or all (number - 1) d))
  unfolding is_in_section
  inside_at zero address d h l = absurd (omega arith)
  inside_at (suc i) address d h l =
      let back : suc i - 1 ≡ i = omega arith in
      ap (λ o. option_map_or (is_inside address) o false)
      (same_at i (omega (arith, few)) ∙ ap (option_map section_view) (slice_get-get_or all i d (omega arith)))
      ∙ ap (λ k. is_inside address (section_view (slice_index_or all k d))) (sym back)

  -- no address lies in a section that there is not
  pub none_past : (number address : ℕ) → length all < number → number < 256 → is_in_section image number address ≡ false
  unfolding is_in_section
  none_past zero address l m = absurd (omega arith)
  none_past (suc i) address l m =
      ap (λ o. option_map_or (is_inside address) o false) (same_at i (omega arith) ∙ ap (option_map section_view) (slice_get_past all i (omega arith)))

pub in_no_section : (image : List ℕ) (number address : ℕ) → number ≡ 0 → is_in_section image number address ≡ false
unfolding is_in_section
in_no_section image zero address e = refl
in_no_section image (suc i) address e = absurd (omega (arith, e))
