-- The turns of an image, out of its candidates and its sections.
use Rattle.std.proofs.Common.{◌≡◌, ℕ, zero, suc, ◌+◌, ◌<◌, ◌^◌, inl, inr, true, cond, nat_lt, nat_cmp, List, [], ◌∷◌}
use Rattle.std.proofs.Common.{◌++◌, length, map, take, get_or, refl, sym, ap, ◌∙◌, subst, arith, Contains}
use Rattle.std.specs.Prelude.{flat_map, eqb}
use Rattle.std.specs.List.{dedup}
use Rattle.std.specs.List.Sorted.{IsPermutation, IsSorted}
use Rattle.std.proofs.lemmas.Bool.{cases_Bool}
use Rattle.std.proofs.lemmas.Bool.Decides.{nat_tests}
use Rattle.std.proofs.lemmas.List.Elements.{Contains-append_cases, Contains-append_left, Contains-append_right}
use Rattle.std.proofs.lemmas.List.Kept.{AllPairs-from_increasing, Contains-dedup_nat, Contains-from_dedup}
use Rattle.std.proofs.lemmas.List.Sorted.{Contains-permutation, IsPermutation-sym}
use Rattle.std.proofs.lemmas.Map.Keys.{IsStrictlyIncreasing-dedup}
use Rattle.macho_image.specs.Sections.{SectionRecord, sections}
use Rattle.macho_image.specs.SectionViews.{section_view}
use Rattle.macho_image.specs.declared.section.Section.{Section}
use Rattle.macho_symbols.specs.Symbols.{Tuple, candidates, strings_of}
use Rattle.macho_symbols.specs.Steps.{ends_of, turns}
use Rattle.macho_symbols.specs.InnerCandidates.{AreCandidates, AreTurns, ends_below}
use Rattle.macho_symbols.specs.Views.{tuple_of}
use Rattle.macho_symbols.specs.SectionNumbers.{AreSectionsOf}
use Rattle.macho_symbols.specs.declared.candidate.Candidate.{Candidate}
use Rattle.macho_symbols.proofs.Numbered.{counted, counted_from}
use Rattle.macho_symbols.proofs.StepLemmas.{mapped}

-- ---- members of a map

pub mapped_from : {X Y : Type 0} (f : X → Y) (xs : List X) (y : Y) → Contains (map f xs) y → (x : X) × Contains xs x × (f x ≡ y)
mapped_from f [] y h = absurd (omega (arith, h.1))
mapped_from f (x ∷ xs) y (zero, l, e) = (x, (0, omega arith, refl), e)
mapped_from f (x ∷ xs) y (suc k, l, e) =
    let rest = mapped_from f xs y (k, omega (arith, l), e) in
    (rest.0, (suc rest.1.0, omega (arith, rest.1.1), rest.1.2), rest.2)

-- ---- where sections begin and end

flat_along : {X Y : Type 0} (f : Y → List ℕ) (g : X → Y) (xs : List X) → flat_map (λ x. f (g x)) xs ≡ flat_map f (map g xs)
flat_along f g [] = refl
flat_along f g (x ∷ xs) = ap (λ rest. f (g x) ++ rest) (flat_along f g xs)

below_is_end : (s : SectionRecord) (a : ℕ) → Contains (ends_below s) a → Contains (ends_of s) a
below_is_end s a (zero, l, e) = (0, omega arith, e)
below_is_end s a (suc k, l, e) = elim (cases_Bool (nat_lt (s.addr + s.size) (2 ^ 64))) [
  | inl t ↦
      let some : Contains (s.addr ∷ ((s.addr + s.size) ∷ [])) a = subst (λ b. Contains (s.addr ∷ (cond b ((s.addr + s.size) ∷ []) [])) a) t (suc k, l, e) in
      some
  | inr t ↦
      let none : Contains (s.addr ∷ []) a = subst (λ b. Contains (s.addr ∷ (cond b ((s.addr + s.size) ∷ []) [])) a) t (suc k, l, e) in
      (0, omega arith, first_alone none)
]
  where
    first_alone : Contains (s.addr ∷ []) a → s.addr ≡ a
    first_alone (zero, m, f) = f
    first_alone (suc j, m, f) = absurd (omega (arith, m))

end_is_below : (s : SectionRecord) (a : ℕ) → a < 2 ^ 64 → Contains (ends_of s) a → Contains (ends_below s) a
end_is_below s a fits (zero, l, e) = (0, omega arith, e)
end_is_below s a fits (suc zero, l, e) =
    let below : nat_lt (s.addr + s.size) (2 ^ 64) ≡ true = grind (arith, nat_tests, e, fits) in
    subst (λ b. Contains (s.addr ∷ (cond b ((s.addr + s.size) ∷ []) [])) a) (sym below) (1, omega arith, e)
end_is_below s a fits (suc (suc k), l, e) = absurd (omega (arith, l))

ends_there : (ss : List SectionRecord) (a : ℕ) → Contains (flat_map ends_below ss) a → Contains (flat_map ends_of ss) a
ends_there [] a h = h
ends_there (s ∷ ss) a h = elim (Contains-append_cases (ends_below s) (flat_map ends_below ss) a h) [
  | inl m ↦ Contains-append_left (ends_of s) (flat_map ends_of ss) a (below_is_end s a m)
  | inr m ↦ Contains-append_right (ends_of s) (flat_map ends_of ss) a (ends_there ss a m)
]

ends_back : (ss : List SectionRecord) (a : ℕ) → a < 2 ^ 64 → Contains (flat_map ends_of ss) a → Contains (flat_map ends_below ss) a
ends_back [] a fits h = h
ends_back (s ∷ ss) a fits h = elim (Contains-append_cases (ends_of s) (flat_map ends_of ss) a h) [
  | inl m ↦ Contains-append_left (ends_below s) (flat_map ends_below ss) a (end_is_below s a fits m)
  | inr m ↦ Contains-append_right (ends_below s) (flat_map ends_below ss) a (ends_back ss a fits m)
]

-- ---- values

values_there : (image : List ℕ) (cs : List Candidate) → AreCandidates image cs → (a : ℕ)
    → Contains (map (λ (c : Candidate). c.value) cs) a → Contains (map (λ (c : Tuple). c.value) (candidates image)) a
unfolding tuple_of
values_there image cs are a h =
    let from = mapped_from (λ (c : Candidate). c.value) cs a h in
    subst (Contains (map (λ (c : Tuple). c.value) (candidates image))) from.2
    (mapped (λ (c : Tuple). c.value) (candidates image) (tuple_of (strings_of image) from.0) (counted image cs are from.0 from.1))

values_back : (image : List ℕ) (cs : List Candidate) → AreCandidates image cs → (a : ℕ)
    → Contains (map (λ (c : Tuple). c.value) (candidates image)) a → Contains (map (λ (c : Candidate). c.value) cs) a
unfolding tuple_of
values_back image cs are a h =
    let from = mapped_from (λ (c : Tuple). c.value) (candidates image) a h in
    let is = counted_from image cs are from.0 from.1 in
    subst (Contains (map (λ (c : Candidate). c.value) cs)) (ap (λ (t : Tuple). t.value) is.2 ∙ from.2) (mapped (λ (c : Candidate). c.value) cs is.0 is.1)

-- ---- all

pub are_turns : (image : List ℕ) (cs : List Candidate) (ss : List Section) (pushed sorted all : List ℕ) → AreCandidates image cs → AreSectionsOf image ss
    → pushed ≡ map (λ c. c.value) cs ++ flat_map (λ s. ends_below (section_view s)) ss → IsPermutation pushed sorted → IsSorted nat_cmp sorted
    → all ≡ dedup eqb sorted → AreTurns image all
are_turns image cs ss pushed sorted all are of came moved order is = record { rising = rising; from = there; each = back }
  where
    values : List ℕ
    values = map (λ (c : Candidate). c.value) cs

    ends : List ℕ
    ends = flat_map (λ s. ends_below (section_view s)) ss

    ends_are : flat_map (λ s. ends_below (section_view s)) ss ≡ flat_map ends_below (take 255 (sections image))
    ends_are = flat_along ends_below section_view ss ∙ ap (flat_map ends_below) of

    rising : (i j d : ℕ) → i < j → j < length all → get_or all i d < get_or all j d
    rising = subst (λ (xs : List ℕ). (i j d : ℕ) → i < j → j < length xs → get_or xs i d < get_or xs j d) (sym is)
        (AllPairs-from_increasing (dedup eqb sorted) (IsStrictlyIncreasing-dedup sorted order))

    there : (a : ℕ) → Contains all a → Contains (turns image) a
    there a h =
        let in_sorted = Contains-from_dedup eqb sorted a (subst (λ xs. Contains xs a) is h) in
        let in_pushed = subst (λ xs. Contains xs a) came (Contains-permutation sorted pushed a (IsPermutation-sym pushed sorted moved) in_sorted) in
        elim (Contains-append_cases (map (λ (c : Candidate). c.value) cs) (flat_map (λ s. ends_below (section_view s)) ss) a in_pushed) [
          | inl m ↦ Contains-append_left (map (λ (c : Tuple). c.value) (candidates image))
              (flat_map ends_of (take 255 (sections image))) a (values_there image cs are a m)
          | inr m ↦ Contains-append_right (map (λ (c : Tuple). c.value) (candidates image)) (flat_map ends_of (take 255 (sections image))) a
              (ends_there (take 255 (sections image)) a (subst (λ xs. Contains xs a) ends_are m))
        ]

    back : (a : ℕ) → Contains (turns image) a → a < 2 ^ 64 → Contains all a
    back a h fits =
        let in_pushed : Contains (map (λ (c : Candidate). c.value) cs ++ flat_map (λ s. ends_below (section_view s)) ss) a =
        elim (Contains-append_cases (map (λ (c : Tuple). c.value) (candidates image)) (flat_map ends_of (take 255 (sections image))) a h) [
          | inl m ↦ Contains-append_left (map (λ (c : Candidate). c.value) cs) (flat_map (λ s. ends_below (section_view s)) ss) a (values_back image cs are a m)
          | inr m ↦ Contains-append_right (map (λ (c : Candidate). c.value) cs) (flat_map (λ s. ends_below (section_view s)) ss) a
              (subst (λ xs. Contains xs a) (sym ends_are) (ends_back (take 255 (sections image)) a fits m))
        ] in
        let in_sorted = Contains-permutation pushed sorted a moved (subst (λ xs. Contains xs a) (sym came) in_pushed) in
        subst (λ xs. Contains xs a) (sym is) (Contains-dedup_nat sorted a in_sorted)
