-- Numbers of sections, one after another.
use Rattle.std.proofs.Common.{◌≡◌, ℕ, zero, suc, ◌+◌, ◌-◌, ◌<◌, List, [], ◌∷◌, length, drop, inl, inr, subst, refl, ap}
use Rattle.std.proofs.Common.{◌∙◌, Some, None, Option, MatchOption, arith, slice_get, slice_index_or, slice_set}
use Rattle.std.proofs.Common.{get_or-set_same, get_or-set_other}
use Rattle.std.proofs.lemmas.Bool.{cases_lt}
use Rattle.std.specs.Option.{option_map}
use Rattle.macho_image.specs.Sections.{SectionRecord, sections, section_of}
use Rattle.macho_image.specs.SectionViews.{section_view}
use Rattle.macho_image.specs.declared.section.Section.{Section}
use Rattle.macho_image.proofs.SectionLemmas.{section_of-at}

-- what comes after m items of a list is its item at m, where it has one
drawn : {A B : Type 0} (view : A → B) (xs : List B) (m : ℕ) (r : Option A) (rest : List B)
    → MatchOption r ((drop m xs ≡ []) × (rest ≡ [])) (λ x. drop m xs ≡ view x ∷ rest)
    → (option_map view r ≡ slice_get xs m) × (rest ≡ drop (suc m) xs)
drawn view [] m None rest h = (refl, h.1)
drawn view [] zero (Some x) rest h = absurd (cc h)
drawn view [] (suc m) (Some x) rest h = absurd (cc h)
drawn view (y ∷ ys) zero None rest h = absurd (cc (h.0))
drawn view (y ∷ ys) zero (Some x) rest h = (cc h, cc h)
drawn view (y ∷ ys) (suc m) r rest h = drawn view ys m r rest h

-- one number more
pub next_number : (image : List ℕ) (n : ℕ) (before after : List SectionRecord) (r : Option Section) (table : List (Option Section))
    → 0 < n → n < length table → before ≡ drop (n - 1) (sections image)
    → MatchOption r ((before ≡ []) × (after ≡ [])) (λ x. before ≡ section_view x ∷ after)
    → ((k : ℕ) → k < n → option_map section_view (slice_index_or table k None) ≡ section_of image k)
    → (after ≡ drop (n + 1 - 1) (sections image))
    × ((k : ℕ) → k < n + 1 → option_map section_view (slice_index_or (slice_set table n r) k None) ≡ section_of image k)
next_number image n before after r table above room rest step told =
    let both = drawn section_view (sections image) (n - 1) r after (rw rest at step) in
    let next : suc (n - 1) ≡ n + 1 - 1 = omega arith in
    let at_n : option_map section_view (slice_index_or (slice_set table n r) n None) ≡ section_of image n =
    ap (option_map section_view) (get_or-set_same table n r None room) ∙ both.0 ∙ section_of-at image n above in (
      both.1 ∙ ap (λ m. drop m (sections image)) next,
      λ k h. elim (cases_lt k n) [
        | inl before ↦ ap (option_map section_view) (get_or-set_other table n k r None (λ same. absurd (omega (arith, same)))) ∙ told k before
        | inr behind ↦
            let same : n ≡ k = omega (arith, h, behind) in
            subst (λ k. option_map section_view (slice_index_or (slice_set table n r) k None) ≡ section_of image k) same at_n
      ],
    )
