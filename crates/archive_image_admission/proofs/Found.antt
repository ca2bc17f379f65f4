-- What was found of the parts of a file, of one more at a time.
use Rattle.std.proofs.Common.{◌≡◌, ℕ, ◌+◌, ◌<◌, true, List, length, Option, None, Some, slice_get, slice_set, slice_index_or, ◌∙◌, subst, arith, inl, inr}
use Rattle.std.proofs.lemmas.Bool.{cases_lt}
use Rattle.std.proofs.lemmas.List.{get_or-set_same, get_or-set_other, length-set}
use Rattle.std.proofs.lemmas.Option.{slice_get_within}
use Rattle.fat_slices.specs.Slices.{slices}
use Rattle.archive_core.specs.Valid.{IsValid}
use Rattle.archive_core.specs.declared.slices.SliceFacts.{SliceFacts}
use Rattle.archive_image_admission.specs.File.{is_admissible}
use Rattle.archive_image_admission.specs.Accepted.{AreFound, AreFactsOf}

-- a part of which something was found is a slice
pub valid_found : (part : List ℕ) (facts : SliceFacts) → AreFactsOf part (Some facts) → IsValid part
valid_found part facts found = record { image = found.image.sound; symbols = found.symbols }

-- so is one that begins as an image
pub valid_if_begins : (part : List ℕ) (found : Option SliceFacts) → AreFactsOf part found → is_admissible part ≡ true → IsValid part
valid_if_begins part None out begins = cc
valid_if_begins part (Some facts) found begins = valid_found part facts found

-- of 32 places that of each of the first i parts has what was found of it
pub record AreFoundBelow (parts : List (List ℕ)) (i : ℕ) (found : List (Option SliceFacts)) : Type 0 where
  pub places : length found ≡ 32
  pub each : (j : ℕ) (part : List ℕ) → j < i → slice_get parts j ≡ Some part → AreFactsOf part (slice_index_or found j None)

pub found_none : (parts : List (List ℕ)) (found : List (Option SliceFacts)) → length found ≡ 32 → AreFoundBelow parts 0 found
found_none parts found places = record { places = places; each = λ j part lt. absurd (omega arith) }

pub found_more : (parts : List (List ℕ)) (i : ℕ) (part : List ℕ) (found : List (Option SliceFacts)) (facts : Option SliceFacts) → AreFoundBelow parts i found
    → slice_get parts i ≡ Some part → AreFactsOf part facts → i < 32 → AreFoundBelow parts (i + 1) (slice_set found i facts)
found_more parts i part found facts before is here room = record {
  places = length-set found i facts ∙ before.places;
  each = λ j other lt at. elim (cases_lt j i) [
    | inl low ↦ rw (get_or-set_other found i j facts None (λ e. absurd (omega (arith, e)))) (before.each j other low at)
    | inr high ↦
        let e : j ≡ i = omega arith in
        let same : part ≡ other = cc in
        rw (e, get_or-set_same found i facts None (omega (arith, before.places)))
        (subst (λ p. AreFactsOf p facts) same here)
  ];
}

-- of a universal file u that has the bytes of the file
pub found_all : (file u : List ℕ) (n : ℕ) (found : List (Option SliceFacts)) → u ≡ file → n ≡ length (slices u)
    → AreFoundBelow (slices u) n found → AreFound (slices file) found
found_all file u n found bytes all below =
    subst (λ bs. AreFound (slices bs) found) bytes
    (λ i part is. let low : i < length (slices u) = slice_get_within (slices u) i part is in below.each i part (omega (arith, all)) is)
