-- Sections by number, out of their places.
use Rattle.std.proofs.Common.{◌≡◌, ℕ, zero, suc, ◌+◌, ◌-◌, ◌<◌, ◌≤◌, List, [], ◌∷◌, ◌++◌, length, map, take, refl, sym}
use Rattle.std.proofs.Common.{ap, ◌∙◌, subst, arith, append_assoc, Option, Some, None, slice_index_or, slice_get}
use Rattle.std.specs.List.{AllByRecursion}
use Rattle.std.specs.Option.{option_map}
use Rattle.std.proofs.lemmas.Option.{none-some, slice_get-map, slice_get-get_or, slice_get_past, same_Some, slice_get_within, get_or_from_slice_get}
use Rattle.std.proofs.lemmas.List.{length-map, length-take, append-nil}
use Rattle.std.proofs.lemmas.List.Elements.{All-from_recursion}
use Rattle.macho_image.specs.Sections.{SectionRecord, IsSectionOf, section_at, sections, section_of}
use Rattle.macho_symbols.specs.SectionPlaces.{place_of, ArePlaces}

pub get-take : {X : Type 0} (n : ℕ) (xs : List X) (i : ℕ) → i < n → slice_get (take n xs) i ≡ slice_get xs i
get-take zero xs i h = absurd (omega arith)
get-take (suc n) [] i h = refl
get-take (suc n) (x ∷ xs) zero h = refl
get-take (suc n) (x ∷ xs) (suc i) h = get-take n xs i (omega arith)

-- what holds of each item holds of the one at a place
all_at : {X : Type 0} (P : X → Type 0) (xs : List X) (i : ℕ) (x : X) → AllByRecursion P xs → slice_get xs i ≡ Some x → P x
all_at P xs i x all e =
    subst P (get_or_from_slice_get xs i x x e) (All-from_recursion P xs all i x (slice_get_within xs i x e))

module _ (image : List ℕ) (places : List ℕ) (are : ArePlaces image places) where
  -- a section stands at its number less one
  place_at : (i : ℕ) → i < 255 → option_map place_of (section_of image (suc i)) ≡ slice_get places i
  place_at i l =
      sym (ap (λ xs. slice_get xs i) are.all ∙ slice_get-map place_of (take 255 (sections image)) i
      ∙ ap (option_map place_of) (get-take 255 (sections image) i l))

  -- there are at most so many
  few : length places ≤ 255
  few = omega (arith, ap length are.all, length-map (take 255 (sections image)) place_of, length-take 255 (sections image))

  there : (i : ℕ) (d : ℕ) → i < length places → option_map place_of (section_of image (suc i)) ≡ Some (slice_index_or places i d)
  there i d l = place_at i (omega (arith, few)) ∙ slice_get-get_or places i d l

  -- no section has a greater number
  pub section_past : (number : ℕ) → length places < number → number < 256 → section_of image number ≡ None
  section_past zero l m = absurd (omega arith)
  section_past (suc i) l m = grind (arith, place_at i (omega arith), slice_get_past places i (omega arith))

  -- the section of a number stands in the image at the place of its place
  pub record IsThere (number : ℕ) (place : ℕ) : Type 0 where
    pub room : place + 80 ≤ length image
    pub is : section_of image number ≡ Some (section_at image place)

  pub section_is : (number : ℕ) (d : ℕ) → 0 < number → number ≤ length places → IsThere number (slice_index_or places (number - 1) d)
  section_is zero d h l = absurd (omega arith)
  section_is (suc i) d h l =
      let back : suc i - 1 ≡ i = omega arith in
      subst (λ k. IsThere (suc i) (slice_index_or places k d)) (sym back)
      (by_section (slice_get (sections image) i) (slice_index_or places i d) refl (there i d (omega arith)))
    where
      by_section : (o : Option SectionRecord) (e : ℕ) → slice_get (sections image) i ≡ o → option_map place_of o ≡ Some e → IsThere (suc i) e
      by_section None e at h = absurd (none-some e h)
      by_section (Some s) e at h =
          let same : s.offset ≡ e = same_Some (place_of s) e h in
          let stands = all_at (IsSectionOf image) (sections image) i s are.each at in
          record {
            room = omega (arith, same, stands.room);
            is = at ∙ ap (λ x. Some x) (sym stands.stands) ∙ ap (λ k. Some (section_at image k)) same;
          }

-- one place more, of the next of the sections that are left
pub place_added : (all places more : List ℕ) (place : ℕ) (n m : ℕ) (section : SectionRecord) (before after : List SectionRecord)
    → places ++ map place_of (take n before) ≡ all → m + 1 ≡ n → before ≡ section ∷ after
    → place ≡ place_of section → more ≡ places ++ place ∷ [] → more ++ map place_of (take m after) ≡ all
place_added all places more place n m section before after so_far counted step is new =
    let next : n ≡ suc m = omega (arith, counted) in
    let front : take n before ≡ section ∷ take m after = rw (next, step) refl in
    ap (λ xs. xs ++ map place_of (take m after)) new ∙ append_assoc places (place ∷ []) (map place_of (take m after))
    ∙ ap (λ e. places ++ (e ∷ map place_of (take m after))) is ∙ sym (ap (λ ss. places ++ map place_of ss) front) ∙ so_far

-- none is left
pub places_all : (all places : List ℕ) (n : ℕ) (left : List SectionRecord) → places ++ map place_of (take n left) ≡ all → (0 < n → left ≡ []) → places ≡ all
places_all all places zero left so_far none = sym (append-nil places) ∙ so_far
places_all all places (suc n) left so_far none =
    sym (append-nil places) ∙ ap (λ ss. places ++ map place_of (take (suc n) ss)) (sym (none (omega arith))) ∙ so_far
